-- How a run ends by its words; a run in which nothing fails does all its acts.
use Rattle.std.proofs.Common.{◌≡◌, ℕ, ◌⊎◌, List, inl, inr, ◌∙◌, subst}
use Rattle.run_acts.specs.Acts.{Observed}
use Rattle.run_acts.specs.Breaks.{Counts, NoneRose}
use Rattle.run_acts.proofs.BreaksLemmas.{not_failed}
use Rattle.run_files.specs.RunStages.Paths.{DoesAll}
use Rattle.run_files.specs.RunStages.Ends.{Follows}
use Rattle.run_files.specs.RunStages.Promise.{IsExact, EndsRightly}

module _ {words : List (List ℕ)} {before now : Counts} {old new : Observed} {status : ℕ} where
  pub ends_rightly : Follows words before now old new status → EndsRightly words before now old new status
  ends_rightly rest = elim rest.end [
    | inl whole ↦ inl (record {
      acts = rest.goes.acts;
      are = record { last = rest.stage; path = rest.goes.path; over = whole.0 };
      observed = whole.1 ∙ rest.goes.observed;
    })
    | inr cut ↦ inr (
      rest.mid,
      (
        cut.0,
        (
          record { acts = rest.goes.acts; stage = rest.stage; path = rest.goes.path; observed = rest.goes.observed; is_next = cut.1.0 },
          cut.1.1,
        ),
      ),
    )
  ]

  -- if no count rises, all acts were done, or memory ran out
  all_or_seven : EndsRightly words before now old new status → NoneRose before now → DoesAll words old new status ⊎ (status ≡ 7)
  all_or_seven ends calm = elim ends [
    | inl all ↦ inl all
    | inr cut ↦ elim cut.1.1.1 [
      | inl none ↦ inr none.0
      | inr fails ↦ absurd (not_failed before now calm cut.1.0 cut.0 new status fails)
    ]
  ]

  pub exact : Follows words before now old new status → IsExact words before now old new status
  exact follows = λ calm memory. elim (all_or_seven (ends_rightly follows) calm) [
    | inl all ↦ all
    | inr seven ↦ absurd (memory seven)
  ]

-- what holds of the shelf and the outputs holds of equal ones
pub of_equal : {S O E : Type 0} (P : S → O → E → Type 0) {s s' : S} {o o' : O} {e e' : E} → P s o e → s ≡ s' → o ≡ o' → e ≡ e' → P s' o' e'
of_equal P {s' = s'} {o = o} {o' = o'} {e = e} h one two three =
    subst (λ z. P s' o' z) three (subst (λ y. P s' y e) two (subst (λ x. P x o e) one h))
