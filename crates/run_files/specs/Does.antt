-- Acts that are done one after another, all of them or up to one that breaks. Stages don't occur here.
use Rattle.std.specs.Prelude.{ℕ, ◌≡◌, List, ◌∷◌, ◌++◌}
use Rattle.run_acts.specs.Acts.{Act, Observed, after}
use Rattle.run_acts.specs.Breaks.{Counts, Breaks}

-- all of them were done, and `new` is observed after them
pub record Does (acts : List Act) (old new : Observed) : Type 0 where
  pub observed : new ≡ after acts old

-- they were done up to one that broke
pub record Stops (acts : List Act) (before now : Counts) (old new : Observed) (status : ℕ) : Type 0 where
  pub part : List Act
  pub act : Act
  pub rest : List Act
  pub is : acts ≡ part ++ act ∷ rest
  pub breaks : Breaks before now act (after part old) new status
