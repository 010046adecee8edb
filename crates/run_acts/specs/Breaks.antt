-- How a run ends at an act that isn't completed: the act failed, or memory ran out.
use Rattle.std.specs.Prelude.{ℕ, ◌≡◌, ◌≤◌, ◌⊎◌, List, take}
use Rattle.outer_io.specs.Faults.{Rose}
use Rattle.run_acts.specs.Acts.{Act, Load, Store, Print, Report, Observed, after_act, after_failed_store}
use Rattle.run_acts.specs.Lines.{cannot_read, cannot_write, cannot_print}

-- the counts of faults of the shelf, the output and the error output
pub record Counts : Type 0 where
  pub shelf : ℕ
  pub out : ℕ
  pub err : ℕ

abbrev pub counts : ℕ → ℕ → ℕ → Counts
counts shelf out err = record { shelf = shelf; out = out; err = err }

-- no count rose, and none is at its maximum
pub record NoneRose (before now : Counts) : Type 0 where
  pub shelf : ¬ Rose before.shelf now.shelf
  pub out : ¬ Rose before.out now.out
  pub err : ¬ Rose before.err now.err

-- no count fell
pub record NoneFell (before now : Counts) : Type 0 where
  pub shelf : before.shelf ≤ now.shelf
  pub out : before.out ≤ now.out
  pub err : before.err ≤ now.err

-- The whole line of a failed act is on the error output, or nothing of it, or a prefix of it if the error output failed too.
abbrev pub LineMayStand : Counts → Counts → List ℕ → Observed → Observed → Type 0
LineMayStand before now line old new =
    (new ≡ after_act (Report line) old)
    ⊎ ((new ≡ old)
    ⊎ (Rose before.err now.err × ((n : ℕ) × (new ≡ after_act (Report (take n line)) old))))

-- A run ends at an act that failed, by the counts when the run began and now, what was observed before the act and now, and the
-- status. If a put failed, a prefix of its bytes was written, and a failed store was counted. A failed load has status 5 if its
-- line could be put.
abbrev pub Fails : Counts → Counts → Act → Observed → Observed → ℕ → Type 0
Fails before now (Load name limit) old new status = Rose before.shelf now.shelf
    × (((status ≡ 5) × (new ≡ after_act (Report (cannot_read name)) old))
    ⊎ ((status ≡ 6) × Rose before.err now.err
    × ((n : ℕ) × (new ≡ after_act (Report (take n (cannot_read name))) old))))
Fails before now (Store name bytes) old new status =
    (status ≡ 6) × Rose before.shelf now.shelf × LineMayStand before now (cannot_write name) (after_failed_store old) new
Fails before now (Print bytes) old new status = (status ≡ 6) × Rose before.out now.out
    × ((n : ℕ) × LineMayStand before now cannot_print (after_act (Print (take n bytes)) old) new)
Fails before now (Report line) old new status = (status ≡ 6) × Rose before.err now.err
    × ((n : ℕ) × (new ≡ after_act (Report (take n line)) old))

-- A run ends at an act: memory ran out, and nothing of the act was done, or the act failed.
abbrev pub Breaks : Counts → Counts → Act → Observed → Observed → ℕ → Type 0
Breaks before now act old new status =
    ((status ≡ 7) × (new ≡ old)) ⊎ Fails before now act old new status
