use Rattle.std.proofs.Common.{◌≡◌, ◌++◌, drop}
use Rattle.edit_marks.specs.EditConflict.Marks.{marks_from}
use Rattle.edit_marks.proofs.edit_conflict.mark.all_marks.Given as goal

abbrev pub invariant-loop-number : goal.invariant-loop-number
invariant-loop-number l = l.marks.items ++ marks_from l.number (drop l.number l.edits) ≡ marks_from 0 l.edits
