-- What a run promises.
use Rattle.std.specs.Prelude.{ℕ, ◌≢◌, ◌⊎◌, List}
use Rattle.run_acts.specs.Acts.{Act, Observed}
use Rattle.run_acts.specs.Breaks.{Counts, NoneRose, Breaks}
use Rattle.run_files.specs.RunStages.Paths.{DoesAll, ComesTo}

-- If no count of faults rises and memory doesn't run out, the run does all the acts of its words, given what the shelf holds,
-- and returns their status.
abbrev pub IsExact : List (List ℕ) → Counts → Counts → Observed → Observed → ℕ → Type 0
IsExact words before now old new status = NoneRose before now → status ≢ 7 → DoesAll words old new status

-- However it ends, the run does all those acts, or a prefix of them and breaks at the next one.
abbrev pub EndsRightly : List (List ℕ) → Counts → Counts → Observed → Observed → ℕ → Type 0
EndsRightly words before now old new status = DoesAll words old new status
    ⊎ ((mid : Observed) × ((act : Act) × (ComesTo words old mid act × Breaks before now act mid new status)))
