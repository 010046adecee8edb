-- How the treatment of a text ends: all of its acts are done, or it is cut off.
use Rattle.std.specs.Prelude.{ℕ, ◌≡◌}
use Rattle.run_acts.specs.Acts.{Observed}
use Rattle.run_acts.specs.Breaks.{Counts}
use Rattle.run_files.specs.Treatment.{Treated}
use Rattle.run_files.specs.declared.tally.Tally.{Tally}
use Rattle.run_files.specs.Does.{Does, Stops}

-- a text was treated in one of these ways, which adds this to the tally, and all of its acts were done
pub record TreatsAll (Ways : Treated → Type 0) (tally : Tally) (old new : Observed) : Type 0 where
  pub treated : Treated
  pub treats : Ways treated
  pub tally_is : treated.tally ≡ tally
  pub does : Does treated.acts old new

-- memory ran out before the treatment was known, or one of its acts broke
pub data TreatsPart (Ways : Treated → Type 0) (before now : Counts) (old new : Observed) (status : ℕ) : Type 0 where
  earlier : status ≡ 7 → new ≡ old → TreatsPart Ways before now old new status
  later : (treated : Treated) → Ways treated → Stops treated.acts before now old new status → TreatsPart Ways before now old new status
