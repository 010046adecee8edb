-- Bytes spell at most one patch, and then what they spell has no fault.
use Rattle.std.proofs.Common.{◌≡◌, ℕ, zero, suc, ◌+◌, ◌<◌, List, [], ◌∷◌, ◌++◌, length, take, Some, None, refl, sym, ap, ◌∙◌}
use Rattle.std.proofs.Common.{subst, arith, slice_get, append_assoc}
use Rattle.std.specs.Prelude.{IfSome}
use Rattle.std.proofs.lemmas.List.{append-nil}
use Rattle.smpl_terms.specs.declared.var.Var.{Var as Variable}
use Rattle.smpl_patch.specs.declared.pattern.VarDecl.{VarDecl}
use Rattle.smpl_patch.specs.declared.pattern.PatToken.{PatToken}
use Rattle.smpl_patch.specs.declared.elem.Elem.{Elem}
use Rattle.smpl_patch.specs.declared.rule.Rule.{Rule}
use Rattle.smpl_patch.specs.declared.rule.Patch.{Patch}
use Rattle.smpl_patch.specs.declared.fault.PatchFault.{PatchFault}
use Rattle.smpl_lexer.specs.declared.text.BodyLine.{BodyLine}
use Rattle.smpl_lexer.specs.declared.text.RuleText.{RuleText}
use Rattle.smpl_lexer.specs.declared.text.PatchText.{PatchText}
use Rattle.smpl_lexer.specs.Texts.{IsTextOf, IsTextFault, AllGoOn}
use Rattle.smpl_meta.specs.declared.head.RuleHead.{RuleHead}
use Rattle.smpl_meta.specs.declared.patterns.Placed.{Placed}
use Rattle.smpl_meta.specs.Patterns.{pattern_tokens}
use Rattle.smpl_meta.specs.Heads.{IsHead, IsHeadFault, AreHeads, IsFirstHeadFault}
use Rattle.smpl_plus.specs.Anchors.{plus_faults, first_phase, AreAnchored}
use Rattle.smpl_body.specs.Bodies.{IsBody, IsBodyFault}
use Rattle.smpl_file.specs.SmplCheck.Checks.{first_fault}
use Rattle.smpl_file.specs.Exports.{taken}
use Rattle.smpl_file.specs.Patches.{IsRule, AreRules, IsRuleFault, IsFirstRuleFault, AreRulesOf, IsSpelled, IsSpellingFault, IsPatchOf, IsFirstFault}
use Rattle.smpl_file.specs.Patches.IsRuleFault.{in_plus, in_body}
use Rattle.smpl_file.specs.Patches.IsSpellingFault.{in_text, in_heads, in_rules}
use Rattle.smpl_file.specs.Patches.IsFirstFault.{spelling, meaning}
use Rattle.smpl_file.proofs.RuleLemmas.{of-some}

-- the laws of the parts
abbrev pub TextOnce : Type 0
TextOnce = (bytes : List ℕ) (one other : PatchText) → IsTextOf bytes one → IsTextOf bytes other → one ≡ other

abbrev pub TextApart : Type 0
TextApart = (bytes : List ℕ) (text : PatchText) (fault : PatchFault) → IsTextOf bytes text → IsTextFault bytes fault → ⊥

abbrev pub TextGoesOn : Type 0
TextGoesOn = (bytes : List ℕ) (text : PatchText) → IsTextOf bytes text → AllGoOn text.rules

abbrev pub HeadsOnce : Type 0
HeadsOnce = (text : PatchText) (earlier : List RuleHead) (rules : List RuleText) (one other : List RuleHead) → AllGoOn rules → AreHeads text earlier rules one
    → AreHeads text earlier rules other → one ≡ other

abbrev pub HeadApart : Type 0
HeadApart = (virtuals : List (List ℕ)) (earlier : List RuleHead) (rule : ℕ) (r : RuleText) (h : RuleHead) (fault : PatchFault)
    → IsHead virtuals earlier rule r h
    → IsHeadFault virtuals earlier r fault → ⊥

abbrev pub PlusOnce : Type 0
PlusOnce = (vars : List VarDecl) (rule : ℕ) (body : List BodyLine) (one other : List PatToken) → AreAnchored vars rule body one
    → AreAnchored vars rule body other → one ≡ other

abbrev pub PlusApart : Type 0
PlusApart = (vars : List VarDecl) (rule : ℕ) (body : List BodyLine) (tokens : List PatToken) (fault : PatchFault) → AreAnchored vars rule body tokens
    → first_phase (plus_faults vars rule body) ≡ Some fault → ⊥

abbrev pub BodyOnce : Type 0
BodyOnce = (ps : List Placed) (one other : List Elem) → IsBody ps one → IsBody ps other → one ≡ other

abbrev pub BodyApart : Type 0
BodyApart = (ps : List Placed) (end : ℕ) (es : List Elem) (fault : PatchFault) → IsBody ps es → IsBodyFault ps end fault → ⊥

-- ---- rules

module _ (plus : PlusOnce) (bodies : BodyOnce) where
  rule-once : (known : List Variable) (n : ℕ) (r : RuleText) (h : RuleHead) (x y : Rule) → IsRule known n r h x → IsRule known n r h y → x ≡ y
  rule-once known n r h x y a b =
      let tokens = plus h.vars n r.body x.tokens y.tokens a.tokens b.tokens in
      let body = bodies (pattern_tokens h.vars r.body) x.body y.body a.body b.body in
      let name = a.name ∙ sym b.name in
      let depends = a.depends ∙ sym b.depends in
      let mode = a.mode ∙ sym b.mode in
      let vars = a.vars ∙ sym b.vars in
      let exports = a.exports ∙ sym b.exports in
      λ i. record { name = name i; depends = depends i; mode = mode i; vars = vars i; exports = exports i; body = body i; tokens = tokens i }

  rules-once : (known : List Variable) (n : ℕ) (rs : List RuleText) (hs : List RuleHead) (xs ys : List Rule)
      → AreRules known n rs hs xs → AreRules known n rs hs ys → xs ≡ ys
  rules-once known n [] [] [] [] a b = refl
  rules-once known n [] [] [] (y ∷ ys) a b = absurd b
  rules-once known n [] [] (x ∷ xs) ys a b = absurd a
  rules-once known n [] (h ∷ hs) [] ys a b = absurd a
  rules-once known n [] (h ∷ hs) (x ∷ xs) ys a b = absurd a
  rules-once known n (r ∷ rs) [] [] ys a b = absurd a
  rules-once known n (r ∷ rs) [] (x ∷ xs) ys a b = absurd a
  rules-once known n (r ∷ rs) (h ∷ hs) [] ys a b = absurd a
  rules-once known n (r ∷ rs) (h ∷ hs) (x ∷ xs) [] a b = absurd b
  rules-once known n (r ∷ rs) (h ∷ hs) (x ∷ xs) (y ∷ ys) a b =
      ap (λ (z : Rule). z ∷ xs) (rule-once known n r h x y a.0 b.0) ∙ ap (λ (zs : List Rule). y ∷ zs) (rules-once known (suc n) rs hs xs ys a.1 b.1)

-- the rule with a given number, with its text and its head
record Read (known : List Variable) (n k : ℕ) (rs : List RuleText) (hs : List RuleHead) : Type 0 where
  pub text : RuleText
  pub head : RuleHead
  pub rule : Rule
  pub text_at : slice_get rs k ≡ Some text
  pub head_at : slice_get hs k ≡ Some head
  pub is : IsRule known (n + k) text head rule

read-at : (known : List Variable) (n k : ℕ) (rs : List RuleText) (hs : List RuleHead) (xs : List Rule)
    → AreRules known n rs hs xs → k < length rs → Read known n k rs hs
read-at known n k [] [] [] a h = absurd (omega arith)
read-at known n k [] [] (x ∷ xs) a h = absurd a
read-at known n k [] (g ∷ hs) [] a h = absurd a
read-at known n k [] (g ∷ hs) (x ∷ xs) a h = absurd a
read-at known n k (r ∷ rs) [] [] a h = absurd a
read-at known n k (r ∷ rs) [] (x ∷ xs) a h = absurd a
read-at known n k (r ∷ rs) (g ∷ hs) [] a h = absurd a
read-at known n zero (r ∷ rs) (g ∷ hs) (x ∷ xs) a h =
    record { text = r; head = g; rule = x; text_at = refl; head_at = refl; is = subst (λ (m : ℕ). IsRule known m r g x) (omega arith) a.0 }
read-at known n (suc k) (r ∷ rs) (g ∷ hs) (x ∷ xs) a h =
    let q = read-at known (suc n) k rs hs xs a.1 (omega arith) in
    record {
      text = q.text;
      head = q.head;
      rule = q.rule;
      text_at = q.text_at;
      head_at = q.head_at;
      is =
          subst (λ (m : ℕ). IsRule known m q.text q.head q.rule) (omega arith) q.is;
    }

module _ (plus : PlusApart) (bodies : BodyApart) where
  rule-apart : (known : List Variable) (n : ℕ) (r : RuleText) (h : RuleHead) (x : Rule) (f : PatchFault) → IsRule known n r h x → IsRuleFault n r h f → ⊥
  rule-apart known n r h x f a (in_plus e) = plus h.vars n r.body x.tokens f a.tokens e
  rule-apart known n r h x f a (in_body e w) = bodies (pattern_tokens h.vars r.body) r.end x.body f a.body w

  rules-apart : (text : PatchText) (heads : List RuleHead) (known : List Variable) (xs : List Rule) (f : PatchFault) → AreRules known 0 text.rules heads xs
      → IsFirstRuleFault text heads f → ⊥
  rules-apart text heads known xs f a w =
      let q = read-at known 0 w.rule text.rules heads xs a w.within in
      let one = of-some (λ r. IfSome (slice_get heads w.rule) (λ h. IsRuleFault w.rule r h f)) (slice_get text.rules w.rule) q.text q.text_at w.here in
      let two = of-some (λ h. IsRuleFault w.rule q.text h f) (slice_get heads w.rule) q.head q.head_at one in
      rule-apart known w.rule q.text q.head q.rule f (subst (λ (m : ℕ). IsRule known m q.text q.head q.rule) (omega arith) q.is) two

-- ---- heads

-- the head with a given number, and those before it
record HeadAt (text : PatchText) (earlier : List RuleHead) (k : ℕ) (rs : List RuleText) : Type 0 where
  pub front : List RuleHead
  pub rule : RuleText
  pub head : RuleHead
  pub before : AreHeads text earlier (take k rs) front
  pub at : slice_get rs k ≡ Some rule
  pub is : IsHead text.virtuals (earlier ++ front) (length (earlier ++ front)) rule head

head-in : (text : PatchText) (earlier : List RuleHead) (k : ℕ) (rs : List RuleText) (hs : List RuleHead)
    → AreHeads text earlier rs hs → k < length rs → HeadAt text earlier k rs
head-in text earlier k [] [] a h = absurd (omega arith)
head-in text earlier k [] (g ∷ hs) a h = absurd a
head-in text earlier k (r ∷ rs) [] a h = absurd a
head-in text earlier zero (r ∷ rs) (g ∷ hs) a h =
    record {
      front = [];
      rule = r;
      head = g;
      before = tt;
      at = refl;
      is =
          subst (λ (l : List RuleHead). IsHead text.virtuals l (length l) r g) (sym (append-nil earlier)) a.0;
    }
head-in text earlier (suc k) (r ∷ rs) (g ∷ hs) a h =
    let q = head-in text (earlier ++ g ∷ []) k rs hs a.1 (omega arith) in
    record {
      front = g ∷ q.front;
      rule = q.rule;
      head = q.head;
      before = (a.0, q.before);
      at = q.at;
      is = subst (λ (l : List RuleHead). IsHead text.virtuals l (length l) q.rule q.head) (append_assoc earlier (g ∷ []) q.front) q.is;
    }

go-take : (k : ℕ) (rs : List RuleText) → AllGoOn rs → AllGoOn (take k rs)
go-take zero rs a = tt
go-take (suc k) [] a = tt
go-take (suc k) (r ∷ rs) a = (a.0, go-take k rs a.1)

heads-apart : HeadsOnce → HeadApart → (text : PatchText) (heads : List RuleHead) (f : PatchFault) → AllGoOn text.rules
    → AreHeads text [] text.rules heads → IsFirstHeadFault text f → ⊥
heads-apart once apart text heads f go are w =
    let q = head-in text [] w.rule text.rules heads are w.within in
    let same : q.front ≡ w.heads = once text [] (take w.rule text.rules) q.front w.heads (go-take w.rule text.rules go) q.before w.before in
    let wrong : IsHeadFault text.virtuals w.heads q.rule f =
    of-some (λ r. IsHeadFault text.virtuals w.heads r f) (slice_get text.rules w.rule) q.rule q.at w.here in
    let there : IsHeadFault text.virtuals q.front q.rule f = subst (λ (l : List RuleHead). IsHeadFault text.virtuals l q.rule f) (sym same) wrong in
    apart text.virtuals q.front (length q.front) q.rule q.head f q.is there

-- ---- patches

module _ (text : TextOnce) (go : TextGoesOn) (heads : HeadsOnce) where
  -- with the text and the heads of the first patch
  moved : (bytes : List ℕ) (one other : Patch) (a : IsSpelled bytes one) → IsSpelled bytes other → AreRulesOf a.text a.heads other
  moved bytes one other a b =
      let e = text bytes b.text a.text b.is_text a.is_text in
      let there : AreHeads a.text [] a.text.rules b.heads = subst (λ (t : PatchText). AreHeads t [] t.rules b.heads) e b.are_heads in
      let same : b.heads ≡ a.heads = heads a.text [] a.text.rules b.heads a.heads (go bytes a.text a.is_text) there a.are_heads in
      subst (λ (hs : List RuleHead). AreRulesOf a.text hs other) same (subst (λ (t : PatchText). AreRulesOf t b.heads other) e b.are_rules)

  pub patch-once : PlusOnce → BodyOnce → (bytes : List ℕ) (one other : Patch) → IsSpelled bytes one → IsSpelled bytes other → one ≡ other
  patch-once plus bodies bytes one other a b =
      let m = moved bytes one other a b in
      let virtuals : one.virtuals ≡ other.virtuals = a.are_rules.virtuals ∙ sym m.virtuals in
      let rules : one.rules ≡ other.rules = rules-once plus bodies (taken a.heads) 0 a.text.rules a.heads one.rules other.rules a.are_rules.rules m.rules in
      λ i. record { virtuals = virtuals i; rules = rules i }

  pub patch-apart : TextApart → HeadApart → PlusApart → BodyApart → (bytes : List ℕ) (patch : Patch) (f : PatchFault)
      → IsSpelled bytes patch → IsSpellingFault bytes f → ⊥
  patch-apart texts head plus bodies bytes patch f a (in_text w) = texts bytes a.text f a.is_text w
  patch-apart texts head plus bodies bytes patch f a (in_heads t is w) =
      let e = text bytes t a.text is a.is_text in
      heads-apart heads head a.text a.heads f (go bytes a.text a.is_text) a.are_heads (subst (λ (x : PatchText). IsFirstHeadFault x f) e w)
  patch-apart texts head plus bodies bytes patch f a (in_rules t hs is are w) =
      let e = text bytes t a.text is a.is_text in
      let there : AreHeads a.text [] a.text.rules hs = subst (λ (x : PatchText). AreHeads x [] x.rules hs) e are in
      let same : hs ≡ a.heads = heads a.text [] a.text.rules hs a.heads (go bytes a.text a.is_text) there a.are_heads in
      let wrong = subst (λ (l : List RuleHead). IsFirstRuleFault a.text l f) same (subst (λ (x : PatchText). IsFirstRuleFault x hs f) e w) in
      rules-apart plus bodies a.text a.heads (taken a.heads) patch.rules f a.are_rules.rules wrong

  pub faultless : TextApart → HeadApart → PlusOnce → PlusApart → BodyOnce → BodyApart
      → (bytes : List ℕ) (patch : Patch) (f : PatchFault) → IsPatchOf bytes patch → IsFirstFault bytes f → ⊥
  faultless texts head once plus body bodies bytes patch f a (spelling w) = patch-apart texts head plus bodies bytes patch f a.spelled w
  faultless texts head once plus body bodies bytes patch f a (meaning p s e) =
      let same : p ≡ patch = patch-once once body bytes p patch s a.spelled in
      let none : first_fault p ≡ None = ap first_fault same ∙ a.checked in
      cc
