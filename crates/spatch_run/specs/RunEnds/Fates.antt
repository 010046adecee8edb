-- What may happen to files in turn: whether each is present, and whether one is refused or hit.
use Rattle.std.specs.Prelude.{ℕ, ◌≡◌, ◌⊎◌, Bool, true, false, List, [], ◌∷◌, Some, None}
use Rattle.run_acts.specs.Acts.{Observed, after}
use Rattle.run_acts.specs.Loaded.{Found}
use Rattle.smpl_patch.specs.declared.rule.Patch.{Patch}
use Rattle.run_words.specs.declared.order.Mode.{Mode}
use Rattle.run_files.specs.declared.tally.Tally.{Tally}
use Rattle.run_files.specs.Treatment.{Treated, IsTreatmentOf}

module _ (patch : Patch) (defined : List (List ℕ)) (mode : Mode) where
  -- each file is present in its turn, after the acts of those before it
  abbrev pub AllThere : Observed → List (List ℕ) → Type 0
  AllThere old [] = Unit {0}
  AllThere old (name ∷ names) = (Found old.files name None → ⊥)
      × ((bytes : List ℕ) (treated : Treated) → Found old.files name (Some bytes) → IsTreatmentOf mode patch defined name bytes treated
      → AllThere (after treated.acts old) names)

  -- no file has this in its tally
  abbrev pub NoFile : (Tally → Bool) → Observed → List (List ℕ) → Type 0
  NoFile has old [] = Unit {0}
  NoFile has old (name ∷ names) =
      (bytes : List ℕ) (treated : Treated) → Found old.files name (Some bytes) → IsTreatmentOf mode patch defined name bytes treated
      → (has treated.tally ≡ false) × NoFile has (after treated.acts old) names

  -- some file has this in its tally
  abbrev pub SomeFile : (Tally → Bool) → Observed → List (List ℕ) → Type 0
  SomeFile has old [] = ⊥
  SomeFile has old (name ∷ names) = (bytes : List ℕ) × (Found old.files name (Some bytes)
      × ((treated : Treated) × (IsTreatmentOf mode patch defined name bytes treated
      × ((has treated.tally ≡ true) ⊎ SomeFile has (after treated.acts old) names))))

  -- no file is refused in its turn: none is too long, and the rules meet no fault in it
  abbrev pub NoneRefused : Observed → List (List ℕ) → Type 0
  NoneRefused = NoFile (λ tally. tally.refused)

  -- some file is refused in its turn
  abbrev pub SomeRefused : Observed → List (List ℕ) → Type 0
  SomeRefused = SomeFile (λ tally. tally.refused)

  -- no file is hit in its turn
  abbrev pub NoneHit : Observed → List (List ℕ) → Type 0
  NoneHit = NoFile (λ tally. tally.hit)

  -- some file is hit in its turn
  abbrev pub SomeHit : Observed → List (List ℕ) → Type 0
  SomeHit = SomeFile (λ tally. tally.hit)
