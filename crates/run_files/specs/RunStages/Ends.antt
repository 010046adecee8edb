-- How a run that has reached a stage ends.
use Rattle.std.specs.Prelude.{ℕ, ◌≡◌, ◌⊎◌, List, Some}
use Rattle.run_acts.specs.Acts.{Act, Observed, after}
use Rattle.run_acts.specs.Breaks.{Counts, NoneFell, Breaks}
use Rattle.run_files.specs.RunStages.Stages.{Stage, begun_by, next_act, status_at}
use Rattle.run_files.specs.RunStages.Paths.{Path}

-- The run goes on from one stage to another: some acts lead there, and `new` is observed after them.
pub record Goes (from : Stage) (old : Observed) (to : Stage) (new : Observed) : Type 0 where
  pub acts : List Act
  pub path : Path old from acts to
  pub observed : new ≡ after acts old

-- The run goes on from this stage to its end, or up to an act that breaks, and no count of faults falls.
pub record Ends (from : Stage) (before now : Counts) (old new : Observed) (status : ℕ) : Type 0 where
  pub stage : Stage
  pub mid : Observed
  pub goes : Goes from old stage mid
  pub fell : NoneFell before now
  pub end : ((status_at stage ≡ Some status) × (new ≡ mid))
      ⊎ ((act : Act) × ((next_act stage ≡ Some act) × Breaks before now act mid new status))

-- The run begins as these words ask, and ends from there.
abbrev pub Follows : List (List ℕ) → Counts → Counts → Observed → Observed → ℕ → Type 0
Follows words before now old new status = Ends (begun_by words) before now old new status

-- The run goes on from some stage that `to` allows, and ends from there; or memory ran out before the stage was known.
pub data LeadsBy (to : Stage → Type 0) (before now : Counts) (old new : Observed) (status : ℕ) : Type 0 where
  unfed : NoneFell before now → status ≡ 7 → new ≡ old → LeadsBy to before now old new status
  from : (stage : Stage) → to stage → Ends stage before now old new status → LeadsBy to before now old new status
