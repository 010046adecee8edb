use Rattle.std.proofs.Common.{◌≡◌, take}
use Rattle.env_sets.specs.Bounds.{is_not}
use Rattle.env_sets.specs.Splits.{restricted}
use Rattle.env_sets.proofs.parts.where_other.Given as goal

abbrev pub invariant-loop-e : goal.invariant-loop-e
invariant-loop-e l = l.entries.items ≡ restricted l.x is_not (take l.e-index l.a)
