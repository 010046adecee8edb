-- When each status is returned, in terms of the acts that were done.
use Rattle.std.specs.Prelude.{ℕ, ◌≡◌, ◌<◌, ◌≤◌, ◌⊎◌, true, List, Option, Some, IsSome}
use Rattle.outer_io.specs.Faults.{Rose}
use Rattle.run_acts.specs.Acts.{Act, Load, Report, Observed, after_act, after}
use Rattle.run_acts.specs.Breaks.{Counts, NoneRose, Fails}
use Rattle.run_acts.specs.Lines.{cannot_read}
use Rattle.run_files.specs.RunStages.Paths.{ComesTo}
use Rattle.run_words.specs.declared.order.Mode.{Mode}
use Rattle.run_words.specs.Orders.{OnFiles, Apply, order_of}
use Rattle.run_files.specs.RunStages.Reasons.{Reason}

-- the acts that were done are those of a whole run with this status, for this reason
pub record DoneFor (words : List (List ℕ)) (old new : Observed) (status : ℕ) : Type 0 where
  pub acts : List Act
  pub reason : Reason words old acts status
  pub observed : new ≡ after acts old

-- the words ask for files to be checked
pub record AsksCheck (words : List (List ℕ)) : Type 0 where
  pub patch : List ℕ
  pub isos : Option (List ℕ)
  pub defined : List (List ℕ)
  pub mode : Mode
  pub names : List (List ℕ)
  pub asked : order_of words ≡ Some (Apply patch isos defined (OnFiles mode names))
  pub checks : mode.check ≡ true

-- For each status: what held when it is returned, whatever the counts did, and when it must be returned.
pub record Causes (words : List (List ℕ)) (before now : Counts) (old new : Observed) (status : ℕ) : Type 0 where
  -- 0 to 4, and 8: a whole run was done, and its reason has this status
  pub whole : (status < 5) ⊎ (status ≡ 8) → DoneFor words old new status
  -- 8: the words ask for `--check`
  pub checked : status ≡ 8 → AsksCheck words
  -- 5: a whole run was done that ended at an absent name; or the run came to a load that failed, and its line was reported
  pub cannot_read : status ≡ 5 → DoneFor words old new 5
      ⊎ ((mid : Observed) × ((name : List ℕ) × ((limit : ℕ) × (ComesTo words old mid (Load name limit)
      × (Rose before.shelf now.shelf × (new ≡ after_act (Report (cannot_read name)) mid))))))
  -- 6: the run came to an act that failed
  pub failed : status ≡ 6
      → (mid : Observed) × ((act : Act) × (ComesTo words old mid act × Fails before now act mid new 6))
  -- 7: the run came to an act of which nothing was done
  pub no_memory : status ≡ 7 → (act : Act) × ComesTo words old new act
  -- if the shelf reveals its files, a status that has a reason must be returned when no count rises
  pub must : (acts : List Act) (wanted : ℕ) → IsSome old.files → Reason words old acts wanted → NoneRose before now
      → (status ≡ wanted) ⊎ (status ≡ 7)
  -- there is no other status
  pub at_most : status ≤ 8
