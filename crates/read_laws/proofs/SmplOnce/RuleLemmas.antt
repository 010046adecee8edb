-- Rules have at most one first fault of plus code and bodies.
-- Proof: if two were in different rules, the earlier rule would be among those before the other, which have no faults.
use Rattle.std.proofs.Common.{◌≡◌, ℕ, zero, suc, ◌+◌, ◌<◌, ◌⊎◌, inl, inr, List, [], ◌∷◌, ◌++◌, length, take, Option, Some, None}
use Rattle.std.proofs.Common.{refl, sym, ap, ◌∙◌, subst, arith, slice_get}
use Rattle.std.specs.Prelude.{IfSome}
use Rattle.smpl_terms.specs.declared.var.Var.{Var as Variable}
use Rattle.smpl_patch.specs.declared.pattern.VarDecl.{VarDecl}
use Rattle.smpl_patch.specs.declared.pattern.PatToken.{PatToken}
use Rattle.smpl_patch.specs.declared.elem.Elem.{Elem}
use Rattle.smpl_patch.specs.declared.rule.Rule.{Rule}
use Rattle.smpl_patch.specs.declared.fault.PatchFault.{PatchFault}
use Rattle.smpl_lexer.specs.declared.text.BodyLine.{BodyLine}
use Rattle.smpl_lexer.specs.declared.text.RuleText.{RuleText}
use Rattle.smpl_lexer.specs.declared.text.PatchText.{PatchText}
use Rattle.smpl_meta.specs.declared.head.RuleHead.{RuleHead}
use Rattle.smpl_meta.specs.declared.patterns.Placed.{Placed}
use Rattle.smpl_meta.specs.Patterns.{pattern_tokens}
use Rattle.smpl_meta.specs.Heads.{AreHeads}
use Rattle.smpl_plus.specs.Anchors.{plus_faults, first_phase, AreAnchored}
use Rattle.smpl_body.specs.Bodies.{IsBody, IsBodyFault}
use Rattle.smpl_file.specs.Exports.{taken}
use Rattle.smpl_file.specs.Patches.{IsRule, AreRules, IsRuleFault, IsFirstRuleFault}
use Rattle.smpl_file.specs.Patches.IsRuleFault.{in_plus, in_body}

-- the laws of the parts
abbrev pub PlusApart : Type 0
PlusApart = (vars : List VarDecl) (rule : ℕ) (body : List BodyLine) (tokens : List PatToken) (fault : PatchFault) → AreAnchored vars rule body tokens
    → first_phase (plus_faults vars rule body) ≡ Some fault → ⊥

abbrev pub BodyFaultOnce : Type 0
BodyFaultOnce = (ps : List Placed) (end : ℕ) (one other : PatchFault) → IsBodyFault ps end one → IsBodyFault ps end other → one ≡ other

abbrev pub BodyApart : Type 0
BodyApart = (ps : List Placed) (end : ℕ) (es : List Elem) (fault : PatchFault) → IsBody ps es → IsBodyFault ps end fault → ⊥

some-at : {A : Type 0} (xs : List A) (n : ℕ) → n < length xs → (x : A) × (slice_get xs n ≡ Some x)
some-at [] n less = absurd (omega (arith, less))
some-at (x ∷ xs) zero less = (x, refl)
some-at (x ∷ xs) (suc n) less = some-at xs n (omega (arith, less))

-- there are as many heads as rules
as-many : (text : PatchText) (earlier : List RuleHead) (rs : List RuleText) (hs : List RuleHead) → AreHeads text earlier rs hs → length hs ≡ length rs
as-many text earlier [] [] a = refl
as-many text earlier [] (h ∷ hs) a = absurd a
as-many text earlier (r ∷ rs) [] a = absurd a
as-many text earlier (r ∷ rs) (h ∷ hs) a = ap suc (as-many text (earlier ++ h ∷ []) rs hs a.1)

order : (a b : ℕ) → (a < b) ⊎ ((a ≡ b) ⊎ (b < a))
order a b = grind arith

-- the fault of a rule's plus code, or of its body
rule-fault-once : BodyFaultOnce → (n : ℕ) (r : RuleText) (h : RuleHead) (f g : PatchFault) → IsRuleFault n r h f → IsRuleFault n r h g → f ≡ g
rule-fault-once bodies n r h f g (in_plus e) (in_plus d) = let both : Some f ≡ Some g = sym e ∙ d in cc
rule-fault-once bodies n r h f g (in_plus e) (in_body d w) = let both : Some f ≡ None = sym e ∙ d in absurd (cc)
rule-fault-once bodies n r h f g (in_body e v) (in_plus d) = let both : None ≡ Some g = sym e ∙ d in absurd (cc)
rule-fault-once bodies n r h f g (in_body e v) (in_body d w) = bodies (pattern_tokens h.vars r.body) r.end f g v w

-- a rule among the first m, with its text and its head
record Before (known : List Variable) (n k : ℕ) (rs : List RuleText) (hs : List RuleHead) : Type 0 where
  pub text : RuleText
  pub head : RuleHead
  pub rule : Rule
  pub text_at : slice_get rs k ≡ Some text
  pub head_at : slice_get hs k ≡ Some head
  pub is : IsRule known (n + k) text head rule

before : (known : List Variable) (n k m : ℕ) (rs : List RuleText) (hs : List RuleHead) (xs : List Rule)
    → AreRules known n (take m rs) (take m hs) xs → k < m → k < length rs
    → Before known n k rs hs
before known n k zero rs hs xs a less within = absurd (omega (arith, less))
before known n k (suc m) [] hs xs a less within = absurd (omega (arith, within))
before known n k (suc m) (r ∷ rs) [] [] a less within = absurd a
before known n k (suc m) (r ∷ rs) [] (x ∷ xs) a less within = absurd a
before known n k (suc m) (r ∷ rs) (g ∷ hs) [] a less within = absurd a
before known n zero (suc m) (r ∷ rs) (g ∷ hs) (x ∷ xs) a less within =
    record { text = r; head = g; rule = x; text_at = refl; head_at = refl; is = subst (λ (i : ℕ). IsRule known i r g x) (omega arith) a.0 }
before known n (suc k) (suc m) (r ∷ rs) (g ∷ hs) (x ∷ xs) a less within =
    let q = before known (suc n) k m rs hs xs a.1 (omega arith) (omega arith) in
    record {
      text = q.text;
      head = q.head;
      rule = q.rule;
      text_at = q.text_at;
      head_at = q.head_at;
      is =
          subst (λ (i : ℕ). IsRule known i q.text q.head q.rule) (omega arith) q.is;
    }

-- the fault of a rule, by its text and its head
fault-of : (text : PatchText) (heads : List RuleHead) (f : PatchFault) (v : IsFirstRuleFault text heads f) (r : RuleText)
    (h : RuleHead) → slice_get text.rules v.rule ≡ Some r
    → slice_get heads v.rule ≡ Some h → IsRuleFault v.rule r h f
fault-of text heads f v r h text_at head_at =
    let P : RuleText → Type 0 = λ r. IfSome (slice_get heads v.rule) (λ h. IsRuleFault v.rule r h f) in
    let Q : RuleHead → Type 0 = λ h. IsRuleFault v.rule r h f in
    let one : P r = subst (λ (o : Option RuleText). IfSome o P) text_at v.here in
    subst (λ (o : Option RuleHead). IfSome o Q) head_at one

module _ (plus : PlusApart) (bodies : BodyApart) where
  rule-apart : (known : List Variable) (n : ℕ) (r : RuleText) (h : RuleHead) (x : Rule) (f : PatchFault) → IsRule known n r h x → IsRuleFault n r h f → ⊥
  rule-apart known n r h x f a (in_plus e) = plus h.vars n r.body x.tokens f a.tokens e
  rule-apart known n r h x f a (in_body e w) = bodies (pattern_tokens h.vars r.body) r.end x.body f a.body w

  none-earlier : (text : PatchText) (heads : List RuleHead) (f g : PatchFault) (v : IsFirstRuleFault text heads f)
      (w : IsFirstRuleFault text heads g) → v.rule < w.rule → ⊥
  none-earlier text heads f g v w less =
      let q = before (taken heads) 0 v.rule w.rule text.rules heads w.before w.are less v.within in
      rule-apart (taken heads) v.rule q.text q.head q.rule f (subst (λ (i : ℕ). IsRule (taken heads) i q.text q.head q.rule) (omega arith) q.is)
      (fault-of text heads f v q.text q.head q.text_at q.head_at)

same-rule : BodyFaultOnce → (text : PatchText) (heads : List RuleHead) (f g : PatchFault) → AreHeads text [] text.rules heads
    → (v : IsFirstRuleFault text heads f)
    (w : IsFirstRuleFault text heads g) → v.rule ≡ w.rule → f ≡ g
same-rule bodies text heads f g are v w e =
    let r = some-at text.rules w.rule w.within in
    let h = some-at heads w.rule (omega (arith, w.within, as-many text [] text.rules heads are)) in
    let text_at : slice_get text.rules v.rule ≡ Some r.0 = ap (slice_get text.rules) e ∙ r.1 in
    let head_at : slice_get heads v.rule ≡ Some h.0 = ap (slice_get heads) e ∙ h.1 in
    let one : IsRuleFault w.rule r.0 h.0 f = subst (λ (n : ℕ). IsRuleFault n r.0 h.0 f) e (fault-of text heads f v r.0 h.0 text_at head_at) in
    rule-fault-once bodies w.rule r.0 h.0 f g one (fault-of text heads g w r.0 h.0 r.1 h.1)

pub rules-fault-once : PlusApart → BodyFaultOnce → BodyApart → (text : PatchText) (heads : List RuleHead) (f g : PatchFault) → AreHeads text [] text.rules heads
    → IsFirstRuleFault text heads f → IsFirstRuleFault text heads g → f ≡ g
rules-fault-once plus once bodies text heads f g are v w = elim (order v.rule w.rule) [
  | inl less ↦ absurd (none-earlier plus bodies text heads f g v w less)
  | inr more ↦ elim more [
    | inl same ↦ same-rule once text heads f g are v w same
    | inr greater ↦ absurd (none-earlier plus bodies text heads g f w v greater)
  ]
]
