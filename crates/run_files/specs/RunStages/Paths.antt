-- The acts that lead a run from one stage to another, and those of a whole run.
use Rattle.std.specs.Prelude.{ℕ, ◌≡◌, List, [], ◌∷◌, Some}
use Rattle.run_acts.specs.Acts.{Act, Observed, after_act, after}
use Rattle.run_files.specs.RunStages.Stages.{Stage, begun_by, next_act, status_at, Leads}

-- These acts lead from one stage to another, starting from this observed state.
abbrev pub Path : Observed → Stage → List Act → Stage → Type 0
Path old from [] to = to ≡ from
Path old from (act ∷ acts) to =
    (next_act from ≡ Some act) × ((mid : Stage) × (Leads old.files from mid × Path (after_act act old) mid acts to))

-- These are the acts and the status of a whole run with these words, starting from this observed state.
pub record AreActs (words : List (List ℕ)) (old : Observed) (acts : List Act) (status : ℕ) : Type 0 where
  pub last : Stage
  pub path : Path old (begun_by words) acts last
  pub over : status_at last ≡ Some status

-- The run did all its acts, and `new` is observed after them.
pub record DoesAll (words : List (List ℕ)) (old new : Observed) (status : ℕ) : Type 0 where
  pub acts : List Act
  pub are : AreActs words old acts status
  pub observed : new ≡ after acts old

-- The run did a prefix of its acts, `mid` is observed after them, and the next act is this one.
pub record ComesTo (words : List (List ℕ)) (old mid : Observed) (next : Act) : Type 0 where
  pub acts : List Act
  pub stage : Stage
  pub path : Path old (begun_by words) acts stage
  pub observed : mid ≡ after acts old
  pub is_next : next_act stage ≡ Some next
