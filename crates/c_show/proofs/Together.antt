-- The test whether two texts run together is correct.
use Rattle.std.proofs.Common.{◌≡◌, ℕ, Bool, true, false, not, ◌&&◌, refl, sym, ap, ◌∙◌, arith, List, [], ◌∷◌, take, subst}
use Rattle.std.specs.Prelude.{Option, Some, None, option_and_then}
use Rattle.std.specs.Bool.{Decides}
use Rattle.std.specs.Str.{bytes_eq}
use Rattle.std.specs.Cmp.Lexicographic.{bytes_decides}
use Rattle.std.proofs.lemmas.Bool.{false≢true}
use Rattle.std.proofs.lemmas.Bool.Decides.{Decides-or, Decides-and}
use Rattle.c_lexer.specs.declared.state.Kind.{Kind}
use Rattle.c_lexer.specs.declared.state.State.{State}
use Rattle.c_lexer.specs.declared.state.State.TheVariants.{Start}
use Rattle.c_lexer.specs.Kinds.{walk, step, kind_at, named}
use Rattle.c_lexer.specs.First.{IsFirst}
use Rattle.c_lexer.specs.Parts.{RunTogether}
use Rattle.c_show.specs.Joint.{never_accepts, is_longer, is_longer_from, runs_together}
use Rattle.c_lexer.proofs.Walks.{Quiet, dead, quiet_after, quiet_one, quiet_step, first_quiet, quiet_first, came}

quiet_decides : (q : State) (xs : List ℕ) → Decides (never_accepts q xs) (Quiet q xs)
quiet_decides q [] = ((λ _ n less. absurd (omega arith)), λ _. refl)
quiet_decides q (c ∷ cs) = after (step q c) refl (λ t. quiet_decides t cs)
  where
    told : (t : State) → step q c ≡ Some t → (r : Option Kind) → kind_at t ≡ r → Decides (never_accepts t cs) (Quiet t cs)
        → Decides (elim r as (λ r. Bool) [ None ↦ never_accepts t cs | Some k ↦ false ]) (Quiet q (c ∷ cs))
    told t is (Some k) has rest = (
      (λ e. absurd (false≢true e)),
      λ quiet.
          let one = quiet_one q c cs quiet in
          let both : Some k ≡ None = sym has ∙ subst (λ (r : Option State). option_and_then kind_at r ≡ None) is one in
          cc,
    )
    told t is None none rest = ((λ e. quiet_after q t c cs is none (rest.0 e)), λ quiet. rest.1 ((quiet_step q t (c ∷ cs) 0 (omega arith) is none).0 quiet))

    after : (r : Option State) → step q c ≡ r → ((t : State) → Decides (never_accepts t cs) (Quiet t cs))
        → Decides (elim r as (λ r. Bool) [
          | None ↦ true
          | Some t ↦
              elim (kind_at t) as (λ r. Bool) [ None ↦ never_accepts t cs | Some k ↦ false ]
        ]) (Quiet q (c ∷ cs))
    after None none rest = ((λ _. dead q c cs none), λ _. refl)
    after (Some t) is rest = told t is (kind_at t) refl (rest t)

flips : (b : Bool) (P : Type 0) → Decides b P → Decides (not b) (P → ⊥)
flips true P d = ((λ e. absurd (false≢true e)), λ no_p. absurd (no_p (d.0 refl)))
flips false P d = ((λ _ p. false≢true (d.1 p)), λ _. refl)

longer_decides : (left right : List ℕ) → Decides (is_longer left right) ((k : Kind) → IsFirst k left right → ⊥)
longer_decides left right = after (walk (Some Start) left) refl
  where
    told : (q : State) → walk (Some Start) left ≡ Some q → (r : Option Kind) → kind_at q ≡ r
        → Decides (elim r as (λ r. Bool) [ None ↦ true | Some k ↦ not (never_accepts q right) ]) ((k : Kind) → IsFirst k left right → ⊥)
    told q is None none = (
      (λ _ k first.
          let at = came left k first.of_kind in
          let same : Some q ≡ Some at.state = sym is ∙ at.is in
          let q_is : q ≡ at.state = cc in
          let both : None ≡ Some at.shape = sym none ∙ ap kind_at q_is ∙ at.has in cc),
      λ _. refl,
    )
    told q is (Some k) has =
        let d = flips (never_accepts q right) (Quiet q right) (quiet_decides q right) in (
          (λ e j first. d.0 e (first_quiet left right j q is first)),
          λ none. d.1 (λ quiet. none (named left k)
              (quiet_first left right (named left k) (record { state = q; shape = k; is = is; has = has; name = refl }) quiet)),
        )

    after : (r : Option State) → walk (Some Start) left ≡ r → Decides (is_longer_from r right) ((k : Kind) → IsFirst k left right → ⊥)
    after None none = ((λ _ k first. let at = came left k first.of_kind in let both : None ≡ Some at.state = sym none ∙ at.is in cc), λ _. refl)
    after (Some q) is = told q is (kind_at q) refl

pub runs_together-decides : (left right : List ℕ) → Decides (runs_together left right) (RunTogether left right)
unfolding runs_together
runs_together-decides left right =
    Decides-or (is_longer left right) (bytes_eq left (46 ∷ []) && bytes_eq (take 1 right) (46 ∷ [])) (longer_decides left right)
    (Decides-and (bytes_eq left (46 ∷ [])) (bytes_eq (take 1 right) (46 ∷ [])) (bytes_decides left (46 ∷ [])) (bytes_decides (take 1 right) (46 ∷ [])))
