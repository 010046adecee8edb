use Rattle.std.proofs.Common.{◌≡◌, ◌++◌, drop}
use Rattle.edit_marks.specs.EditConflict.Marks.{insert_marks}
use Rattle.edit_marks.proofs.edit_conflict.mark.push_inserts.Given as goal

abbrev pub invariant-loop-number : goal.invariant-loop-number
invariant-loop-number l = l.marks.items ++ insert_marks l.edit l.number (drop l.number l.inserts) ≡ l.initial.marks.items ++ insert_marks l.edit 0 l.inserts
