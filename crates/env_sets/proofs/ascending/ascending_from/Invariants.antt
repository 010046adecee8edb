use Rattle.std.proofs.Common.{◌≤◌, length, drop}
use Rattle.env_sets.specs.Ascending.{Ascend}
use Rattle.env_sets.proofs.ascending.ascending_from.Given as goal

abbrev pub invariant-loop-from : goal.invariant-loop-from
invariant-loop-from l = record {
  within : l.from ≤ length l.entries;
  ascend : Ascend (drop l.from l.entries);
}

abbrev pub decreases-loop-from : goal.decreases-loop-from
decreases-loop-from l = l.from
