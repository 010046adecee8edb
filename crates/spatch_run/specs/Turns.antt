-- The outcome of a file's turn.
use Rattle.std.specs.Prelude.{ℕ, ◌≡◌, List, Some, None}
use Rattle.run_acts.specs.Acts.{Observed}
use Rattle.run_acts.specs.Loaded.{Found}
use Rattle.smpl_patch.specs.declared.rule.Patch.{Patch}
use Rattle.run_words.specs.declared.order.Mode.{Mode}
use Rattle.run_files.specs.Treatment.{IsFileTreatmentOf}
use Rattle.run_files.specs.Cuts.{TreatsAll}
use Rattle.spatch_run.specs.declared.files.Turn.{Turn}
use Rattle.spatch_run.specs.declared.files.Turn.TheVariants as turn

-- nothing is stored under its name, and nothing is output; or its bytes are treated, and their acts are done
abbrev pub TurnsTo : Turn → Patch → List (List ℕ) → Mode → List ℕ → Observed → Observed → Type 0
TurnsTo turn.Absent patch defined mode name old new = Found old.files name None × (new ≡ old)
TurnsTo (turn.Processed tally) patch defined mode name old new =
    (bytes : List ℕ) × (Found old.files name (Some bytes) × TreatsAll (IsFileTreatmentOf old.files mode patch defined name bytes) tally old new)
