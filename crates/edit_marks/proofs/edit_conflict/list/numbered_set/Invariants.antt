use Rattle.std.proofs.Common.{◌≡◌, map}
use Rattle.edit_marks.specs.EditConflict.Once.{once, number_in}
use Rattle.edit_marks.proofs.EditConflict.Numbers.{AreIn}
use Rattle.edit_marks.proofs.edit_conflict.list.numbered_set.Given as goal

abbrev pub invariant-loop-edit : goal.invariant-loop-edit
invariant-loop-edit l = record {
  edits : l.set.keys ≡ once l.yielded;
  all : AreIn l.set.keys l.yielded;
  numbers : l.numbers.items ≡ map (number_in l.set.keys) l.yielded;
}
