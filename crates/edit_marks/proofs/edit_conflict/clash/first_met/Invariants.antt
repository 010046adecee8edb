use Rattle.std.proofs.Common.{◌≡◌, drop}
use Rattle.edit_marks.specs.EditConflict.Scan.{first_met, conflicts}
use Rattle.edit_marks.proofs.edit_conflict.clash.first_met.Given as goal

abbrev pub invariant-loop-mark : goal.invariant-loop-mark
invariant-loop-mark l = first_met (conflicts l.acts) l.token (drop l.mark-index l.marks) ≡ first_met (conflicts l.acts) l.token l.marks
