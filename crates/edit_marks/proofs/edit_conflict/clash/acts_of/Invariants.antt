use Rattle.std.proofs.Common.{◌≡◌, take, fold}
use Rattle.edit_marks.specs.EditConflict.Scan.{acts_with, no_acts}
use Rattle.edit_marks.proofs.edit_conflict.clash.acts_of.Given as goal

abbrev pub invariant-loop-mark : goal.invariant-loop-mark
invariant-loop-mark l = l.acts ≡ fold (λ acts m. acts_with acts m.act) no_acts (take l.mark-index l.marks)
