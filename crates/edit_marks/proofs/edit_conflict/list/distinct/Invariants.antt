use Rattle.std.proofs.Common.{◌≡◌}
use Rattle.edit_marks.specs.EditConflict.Once.{once}
use Rattle.edit_marks.proofs.edit_conflict.list.distinct.Given as goal

abbrev pub invariant-loop-edit : goal.invariant-loop-edit
invariant-loop-edit l = l.set.keys ≡ once l.yielded
