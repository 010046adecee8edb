-- Rules that are read one after another.
use Rattle.std.proofs.Common.{◌≡◌, ℕ, zero, suc, ◌+◌, ◌<◌, ◌≤◌, ◌^◌, lit<, List, [], ◌∷◌, ◌++◌, length, take, Option, Some}
use Rattle.std.proofs.Common.{None, refl, sym, ap, ◌∙◌, subst, arith, get_or, slice_get}
use Rattle.std.specs.Prelude.{IfSome}
use Rattle.std.proofs.lemmas.List.{take_more}
use Rattle.std.proofs.lemmas.Option.{slice_get_within, get_or_from_slice_get}
use Rattle.smpl_terms.specs.declared.var.Var.{Var as Variable}
use Rattle.smpl_patch.specs.declared.rule.Rule.{Rule}
use Rattle.smpl_patch.specs.declared.fault.PatchFault.{PatchFault}
use Rattle.smpl_lexer.specs.declared.text.RuleText.{RuleText}
use Rattle.smpl_file.proofs.FaultLemmas.{or-map}
use Rattle.smpl_lexer.specs.Texts.{OrNoMemory, most_bytes, IsSmall, IsSmallRule}
use Rattle.std.proofs.lemmas.List.Elements.{All-get_or}
use Rattle.smpl_lexer.specs.declared.text.PatchText.{PatchText}
use Rattle.smpl_meta.specs.declared.head.RuleHead.{RuleHead}
use Rattle.smpl_meta.specs.Heads.{AreHeads}
use Rattle.smpl_meta.specs.Patterns.{pattern_tokens}
use Rattle.smpl_patch.specs.declared.pattern.PatToken.{PatToken}
use Rattle.smpl_patch.specs.declared.elem.Elem.{Elem}
use Rattle.smpl_plus.specs.Anchors.{AreAnchored}
use Rattle.smpl_body.specs.Bodies.{IsBody}
use Rattle.smpl_file.specs.Exports.{taken}
use Rattle.smpl_file.specs.Patches.{made, IsRule, AreRules, IsRuleFault, IsFirstRuleFault}

-- as many heads as rules
pub heads-length : (text : PatchText) (earlier : List RuleHead) (rs : List RuleText) (hs : List RuleHead) → AreHeads text earlier rs hs → length hs ≡ length rs
heads-length text earlier [] [] are = refl
heads-length text earlier [] (h ∷ hs) are = absurd are
heads-length text earlier (r ∷ rs) [] are = absurd are
heads-length text earlier (r ∷ rs) (h ∷ hs) are = ap suc (heads-length text (earlier ++ h ∷ []) rs hs are.1)

-- one more rule
more_rules : (known : List Variable) (n : ℕ) (rs : List RuleText) (hs : List RuleHead) (xs : List Rule) (r : RuleText) (h : RuleHead) (x : Rule)
    → AreRules known n rs hs xs → IsRule known (n + length rs) r h x → AreRules known n (rs ++ r ∷ []) (hs ++ h ∷ []) (xs ++ x ∷ [])
more_rules known n [] [] [] r h x are is = (subst (λ (k : ℕ). IsRule known k r h x) (omega arith) is, tt)
more_rules known n [] [] (y ∷ xs) r h x are is = absurd are
more_rules known n [] (g ∷ hs) [] r h x are is = absurd are
more_rules known n [] (g ∷ hs) (y ∷ xs) r h x are is = absurd are
more_rules known n (q ∷ rs) [] [] r h x are is = absurd are
more_rules known n (q ∷ rs) [] (y ∷ xs) r h x are is = absurd are
more_rules known n (q ∷ rs) (g ∷ hs) [] r h x are is = absurd are
more_rules known n (q ∷ rs) (g ∷ hs) (y ∷ xs) r h x are is =
    (are.0, more_rules known (suc n) rs hs xs r h x are.1 (subst (λ (k : ℕ). IsRule known k r h x) (omega arith) is))

take_one : {A : Type 0} (xs : List A) (i : ℕ) (x : A) → slice_get xs i ≡ Some x → take (i + 1) xs ≡ take i xs ++ x ∷ []
take_one {A} xs i x e = take_more xs i x (slice_get_within xs i x e) ∙ ap (λ (y : A). take i xs ++ y ∷ []) (get_or_from_slice_get xs i x x e)

length_take : {A : Type 0} (xs : List A) (i : ℕ) → i ≤ length xs → length (take i xs) ≡ i
length_take [] zero h = refl
length_take [] (suc i) h = absurd (omega arith)
length_take (x ∷ xs) zero h = refl
length_take (x ∷ xs) (suc i) h = ap suc (length_take xs i (omega arith))

take_self : {A : Type 0} (xs : List A) (n : ℕ) → n ≡ length xs → take n xs ≡ xs
take_self [] zero e = refl
take_self [] (suc n) e = refl
take_self (x ∷ xs) zero e = absurd (omega arith)
take_self (x ∷ xs) (suc n) e = ap (λ l. x ∷ l) (take_self xs n (omega arith))

pub rules-more : (known : List Variable) (rules : List RuleText) (heads : List RuleHead) (i : ℕ) (xs : List Rule) (r : RuleText) (h : RuleHead) (x : Rule)
    → slice_get rules i ≡ Some r → slice_get heads i ≡ Some h → AreRules known 0 (take i rules) (take i heads) xs → IsRule known i r h x
    → AreRules known 0 (take (i + 1) rules) (take (i + 1) heads) (xs ++ x ∷ [])
rules-more known rules heads i xs r h x e f are is =
    let le : i ≤ length rules = omega (arith, slice_get_within rules i r e) in
    let here : IsRule known (0 + length (take i rules)) r h x = subst (λ (k : ℕ). IsRule known k r h x) (omega (arith, length_take rules i le)) is in
    let more = more_rules known 0 (take i rules) (take i heads) xs r h x are here in
    let one = subst (λ (l : List RuleText). AreRules known 0 l (take i heads ++ h ∷ []) (xs ++ x ∷ [])) (sym (take_one rules i r e)) more in
    subst (λ (l : List RuleHead). AreRules known 0 (take (i + 1) rules) l (xs ++ x ∷ [])) (sym (take_one heads i h f)) one

-- within the rules there is a rule, and a head
pub rule-at : (rules : List RuleText) (i : ℕ) → i < length rules → (r : RuleText) × (slice_get rules i ≡ Some r)
rule-at [] i h = absurd (omega arith)
rule-at (r ∷ rules) zero h = (r, refl)
rule-at (r ∷ rules) (suc i) h = rule-at rules i (omega arith)

pub head-at : (heads : List RuleHead) (i : ℕ) → i < length heads → (h : RuleHead) × (slice_get heads i ≡ Some h)
head-at [] i h = absurd (omega arith)
head-at (g ∷ heads) zero h = (g, refl)
head-at (g ∷ heads) (suc i) h = head-at heads i (omega arith)

pub fault-here : (text : PatchText) (heads : List RuleHead) (known : List Variable) (i : ℕ) (xs : List Rule) (r : RuleText) (h : RuleHead) (f : PatchFault)
    → known ≡ taken heads → slice_get text.rules i ≡ Some r → slice_get heads i ≡ Some h → AreRules known 0 (take i text.rules) (take i heads) xs
    → IsRuleFault i r h f → IsFirstRuleFault text heads f
fault-here text heads known i xs r h f same e g are wrong = record {
  rule = i;
  within = slice_get_within text.rules i r e;
  before = xs;
  are = subst (λ (k : List Variable). AreRules k 0 (take i text.rules) (take i heads) xs) same are;
  here =
      let P : Option RuleHead → Type 0 = λ o. IfSome o (λ k. IsRuleFault i r k f) in
      let inner : P (slice_get heads i) = subst P (sym g) wrong in
      let Q : Option RuleText → Type 0 = λ o. IfSome o (λ q. IfSome (slice_get heads i) (λ k. IsRuleFault i q k f)) in
      subst Q (sym e) inner;
}

-- bodies of small texts are short
short_by : (most : ℕ) (r : RuleText) → most < 2 ^ 32 → length r.body ≤ most → length r.body < 2 ^ 32
short_by most r fits le = omega arith

pub body-short : (text : PatchText) (i : ℕ) → IsSmall text → i < length text.rules → IfSome (slice_get text.rules i) (λ r. length r.body < 2 ^ 32)
body-short text i small within =
    let at = rule-at text.rules i within in
    let same : get_or text.rules i at.0 ≡ at.0 = get_or_from_slice_get text.rules i at.0 at.0 at.1 in
    let is : IsSmallRule at.0 = subst (λ (x : RuleText). IsSmallRule x) same (All-get_or IsSmallRule text.rules i at.0 within small.each) in
    let P : Option RuleText → Type 0 = λ o. IfSome o (λ r. length r.body < 2 ^ 32) in
    subst P (sym at.1) (short_by most_bytes at.0 (lit< tt) is.lines)

-- what holds of the rule with a given number
pub of-some : {A : Type 0} (P : A → Type 0) (o : Option A) (x : A) → o ≡ Some x → IfSome o P → P x
of-some {A} P o x e h = let Q : Option A → Type 0 = λ k. IfSome k P in subst Q e h

pub to-some : {A : Type 0} (P : A → Type 0) (o : Option A) (x : A) → o ≡ Some x → P x → IfSome o P
to-some {A} P o x e h = let Q : Option A → Type 0 = λ k. IfSome k P in subst Q (sym e) h

-- as many rules as a text has
pub rules-length : (known : List Variable) (n : ℕ) (rs : List RuleText) (hs : List RuleHead) (xs : List Rule)
    → AreRules known n rs hs xs → length xs ≡ length rs
rules-length known n [] [] [] are = refl
rules-length known n [] [] (y ∷ xs) are = absurd are
rules-length known n [] (g ∷ hs) [] are = absurd are
rules-length known n [] (g ∷ hs) (y ∷ xs) are = absurd are
rules-length known n (q ∷ rs) [] [] are = absurd are
rules-length known n (q ∷ rs) [] (y ∷ xs) are = absurd are
rules-length known n (q ∷ rs) (g ∷ hs) [] are = absurd are
rules-length known n (q ∷ rs) (g ∷ hs) (y ∷ xs) are = ap suc (rules-length known (suc n) rs hs xs are.1)

few_by : (most count : ℕ) → most < 2 ^ 32 → count ≤ most → count < 2 ^ 32
few_by most count fits le = omega arith

pub few-rules : (text : PatchText) → IsSmall text → length text.rules < 2 ^ 32
few-rules text small = few_by most_bytes (length text.rules) (lit< tt) small.rules

-- ---- one rule

pub some-map : {A : Type 0} (P Q : A → Type 0) (o : Option A) → ((x : A) → P x → Q x) → IfSome o P → IfSome o Q
some-map P Q None k h = h
some-map P Q (Some x) k h = k x h

pub some-both : {A : Type 0} (P Q R : A → Type 0) (o : Option A) → ((x : A) → P x → Q x → R x) → IfSome o P → IfSome o Q → IfSome o R
some-both P Q R None k h g = h
some-both P Q R (Some x) k h g = k x h g

pub is-rule : (known : List Variable) (n : ℕ) (r : RuleText) (h : RuleHead) (tokens : List PatToken) (body : List Elem)
    (x : Rule) → x ≡ made h known tokens body
    → AreAnchored h.vars n r.body tokens → IsBody (pattern_tokens h.vars r.body) body → IsRule known n r h x
is-rule known n r h tokens body x e are is = record {
  name = ap (λ (y : Rule). y.name) e;
  depends = ap (λ (y : Rule). y.depends) e;
  mode = ap (λ (y : Rule). y.mode) e;
  vars = ap (λ (y : Rule). y.vars) e;
  exports = ap (λ (y : Rule). y.exports) e;
  tokens = subst (λ (ts : List PatToken). AreAnchored h.vars n r.body ts) (sym (ap (λ (y : Rule). y.tokens) e)) are;
  body = subst (λ (es : List Elem). IsBody (pattern_tokens h.vars r.body) es) (sym (ap (λ (y : Rule). y.body) e)) is;
}

-- ---- rule by rule

pub rules-step : (text : PatchText) (heads : List RuleHead) (known : List Variable) (i : ℕ) (xs more : List Rule) (x : Rule) → AreHeads text [] text.rules heads
    → i < length text.rules → more ≡ xs ++ x ∷ [] → IfSome (slice_get text.rules i) (λ r. IfSome (slice_get heads i) (λ h. IsRule known i r h x))
    → AreRules known 0 (take i text.rules) (take i heads) xs → AreRules known 0 (take (i + 1) text.rules) (take (i + 1) heads) more
rules-step text heads known i xs more x are within e is before =
    let r = rule-at text.rules i within in
    let h = head-at heads i (omega (arith, heads-length text [] text.rules heads are)) in
    let one = of-some (λ q. IfSome (slice_get heads i) (λ k. IsRule known i q k x)) (slice_get text.rules i) r.0 r.1 is in
    let two = of-some (λ k. IsRule known i r.0 k x) (slice_get heads i) h.0 h.1 one in
    subst (λ (l : List Rule). AreRules known 0 (take (i + 1) text.rules) (take (i + 1) heads) l) (sym e)
    (rules-more known text.rules heads i xs r.0 h.0 x r.1 h.1 before two)

pub rules-all : (text : PatchText) (heads : List RuleHead) (known : List Variable) (n : ℕ) (xs : List Rule)
    → AreHeads text [] text.rules heads → n ≡ length text.rules
    → AreRules known 0 (take n text.rules) (take n heads) xs → AreRules known 0 text.rules heads xs
rules-all text heads known n xs are e is =
    let same : n ≡ length heads = omega (arith, e, heads-length text [] text.rules heads are) in
    let one = subst (λ (l : List RuleText). AreRules known 0 l (take n heads) xs) (take_self text.rules n e) is in
    subst (λ (l : List RuleHead). AreRules known 0 text.rules l xs) (take_self heads n same) one

pub rule-fault : (text : PatchText) (heads : List RuleHead) (known : List Variable) (i : ℕ) (xs : List Rule) (f : PatchFault)
    → AreHeads text [] text.rules heads
    → i < length text.rules → known ≡ taken heads → AreRules known 0 (take i text.rules) (take i heads) xs
    → IfSome (slice_get text.rules i) (λ r. IfSome (slice_get heads i) (λ h. OrNoMemory (IsRuleFault i r h) f)) → OrNoMemory (IsFirstRuleFault text heads) f
rule-fault text heads known i xs f are within same before wrong =
    let r = rule-at text.rules i within in
    let h = head-at heads i (omega (arith, heads-length text [] text.rules heads are)) in
    let one = of-some (λ q. IfSome (slice_get heads i) (λ k. OrNoMemory (IsRuleFault i q k) f)) (slice_get text.rules i) r.0 r.1 wrong in
    let two = of-some (λ k. OrNoMemory (IsRuleFault i r.0 k) f) (slice_get heads i) h.0 h.1 one in
    or-map (IsRuleFault i r.0 h.0) (IsFirstRuleFault text heads) f (λ g k. fault-here text heads known i xs r.0 h.0 g same r.1 h.1 before k) two
