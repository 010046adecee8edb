-- A text has at most one first fault of its heads, and none if it has heads.
use Rattle.std.proofs.Common.{◌≡◌, ℕ, zero, suc, ◌<◌, ◌⊎◌, inl, inr, List, [], ◌∷◌, ◌++◌, length, take, Option, Some, refl, sym}
use Rattle.std.proofs.Common.{◌∙◌, subst, append_assoc, slice_get, arith}
use Rattle.std.specs.Prelude.{IfSome}
use Rattle.std.proofs.lemmas.List.{append-nil}
use Rattle.smpl_patch.specs.declared.fault.PatchFault.{PatchFault}
use Rattle.smpl_patch.specs.Faults.{first_of}
use Rattle.smpl_lexer.specs.declared.text.RuleText.{RuleText}
use Rattle.smpl_lexer.specs.declared.text.PatchText.{PatchText}
use Rattle.smpl_lexer.specs.Texts.{AllGoOn}
use Rattle.smpl_meta.specs.declared.head.RuleHead.{RuleHead}
use Rattle.smpl_meta.specs.Heads.{IsHead, IsHeadFault, AreHeads, IsFirstHeadFault}
use Rattle.smpl_meta.specs.declared.item.Item.{Item}
use Rattle.smpl_meta.specs.Heads.{head_faults}
use Rattle.smpl_meta.proofs.DeclsOnce.{OneTree, answers-once}
use Rattle.smpl_meta.proofs.HeadsOnce.{head_once, head_or_fault}

-- one of the rules has the fault, and those before it have heads
abbrev Faulty : PatchText → List RuleHead → List RuleText → PatchFault → Type 0
Faulty text earlier [] f = ⊥
Faulty text earlier (r ∷ rs) f =
    IsHeadFault text.virtuals earlier r f ⊎ ((h : RuleHead) × (IsHead text.virtuals earlier (length earlier) r h × Faulty text (earlier ++ h ∷ []) rs f))

rule_at : (rs : List RuleText) (n : ℕ) → n < length rs → (r : RuleText) × (slice_get rs n ≡ Some r)
rule_at [] n within = absurd (omega (arith, within))
rule_at (r ∷ rs) zero within = (r, refl)
rule_at (r ∷ rs) (suc n) within = rule_at rs n (omega (arith, within))

faulty_at : (text : PatchText) (earlier : List RuleHead) (rs : List RuleText) (hs : List RuleHead) (n : ℕ) (r : RuleText) (f : PatchFault)
    → AreHeads text earlier (take n rs) hs → slice_get rs n ≡ Some r → IsHeadFault text.virtuals (earlier ++ hs) r f → Faulty text earlier rs f
faulty_at text earlier [] hs n r f are get is = absurd (cc)
faulty_at text earlier (q ∷ rs) [] zero r f are get is =
    let same : q ≡ r = cc in
    let here : IsHeadFault text.virtuals earlier r f = subst (λ (l : List RuleHead). IsHeadFault text.virtuals l r f) (append-nil earlier) is in
    inl (subst (λ (x : RuleText). IsHeadFault text.virtuals earlier x f) (sym same) here)
faulty_at text earlier (q ∷ rs) (h ∷ hs) zero r f are get is = absurd are
faulty_at text earlier (q ∷ rs) [] (suc n) r f are get is = absurd are
faulty_at text earlier (q ∷ rs) (h ∷ hs) (suc n) r f are get is =
    let same : (earlier ++ h ∷ []) ++ hs ≡ earlier ++ h ∷ hs = append_assoc earlier (h ∷ []) hs in
    let there : IsHeadFault text.virtuals ((earlier ++ h ∷ []) ++ hs) r f = subst (λ (l : List RuleHead). IsHeadFault text.virtuals l r f) (sym same) is in
    inr (h, (are.0, faulty_at text (earlier ++ h ∷ []) rs hs n r f are.1 get there))

faulty : (text : PatchText) (f : PatchFault) → IsFirstHeadFault text f → Faulty text [] text.rules f
faulty text f first =
    let r = rule_at text.rules first.rule first.within in
    let here : IsHeadFault text.virtuals first.heads r.0 f =
    subst (λ (o : Option RuleText). IfSome o (λ x. IsHeadFault text.virtuals first.heads x f)) r.1 first.here in
    faulty_at text [] text.rules first.heads first.rule r.0 f first.before r.1 here

module _ (law : OneTree) where
  once_from : (text : PatchText) (earlier : List RuleHead) (rs : List RuleText) (f g : PatchFault) → AllGoOn rs
      → Faulty text earlier rs f → Faulty text earlier rs g → f ≡ g
  once_from text earlier [] f g go a b = absurd a
  once_from text earlier (r ∷ rs) f g go (inl a) (inl b) =
      let same : a.answers ≡ b.answers = answers-once law r.decls a.answers b.answers a.read b.read in
      let first : first_of (head_faults text.virtuals earlier b.answers r) ≡ Some f
      = subst (λ (l : List (Option (List Item))). first_of (head_faults text.virtuals earlier l r) ≡ Some f) same a.first in
      let both : Some f ≡ Some g = sym first ∙ b.first in cc
  once_from text earlier (r ∷ rs) f g go (inl a) (inr (k, (is, b))) = absurd (head_or_fault law text.virtuals earlier (length earlier) r k f is a)
  once_from text earlier (r ∷ rs) f g go (inr (h, (is, a))) (inl b) = absurd (head_or_fault law text.virtuals earlier (length earlier) r h g is b)
  once_from text earlier (r ∷ rs) f g go (inr (h, (is, a))) (inr (k, (also, b))) =
      let same : h ≡ k = head_once law text.virtuals earlier (length earlier) r h k go.0 is also in
      let there : Faulty text (earlier ++ k ∷ []) rs f = subst (λ (x : RuleHead). Faulty text (earlier ++ x ∷ []) rs f) same a in
      once_from text (earlier ++ k ∷ []) rs f g go.1 there b

  apart_from : (text : PatchText) (earlier : List RuleHead) (rs : List RuleText) (hs : List RuleHead) (f : PatchFault) → AllGoOn rs
      → AreHeads text earlier rs hs → Faulty text earlier rs f → ⊥
  apart_from text earlier [] hs f go are a = absurd a
  apart_from text earlier (r ∷ rs) [] f go are a = absurd are
  apart_from text earlier (r ∷ rs) (h ∷ hs) f go are (inl a) = head_or_fault law text.virtuals earlier (length earlier) r h f are.0 a
  apart_from text earlier (r ∷ rs) (h ∷ hs) f go are (inr (k, (is, a))) =
      let same : k ≡ h = head_once law text.virtuals earlier (length earlier) r k h go.0 is are.0 in
      let there : Faulty text (earlier ++ h ∷ []) rs f = subst (λ (x : RuleHead). Faulty text (earlier ++ x ∷ []) rs f) same a in
      apart_from text (earlier ++ h ∷ []) rs hs f go.1 are.1 there

  pub first_once : (text : PatchText) (f g : PatchFault) → AllGoOn text.rules → IsFirstHeadFault text f → IsFirstHeadFault text g → f ≡ g
  first_once text f g go a b = once_from text [] text.rules f g go (faulty text f a) (faulty text g b)

  pub heads_or_fault : (text : PatchText) (hs : List RuleHead) (f : PatchFault) → AllGoOn text.rules → AreHeads text [] text.rules hs
      → IsFirstHeadFault text f → ⊥
  heads_or_fault text hs f go are a = apart_from text [] text.rules hs f go are (faulty text f a)
