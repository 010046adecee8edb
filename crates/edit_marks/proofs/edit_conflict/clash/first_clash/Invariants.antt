use Rattle.std.proofs.Common.{◌≤◌, ◌-◌, drop, length}
use Rattle.edit_marks.specs.declared.edit_conflict.clash.Clash.{Clash}
use Rattle.edit_marks.proofs.EditConflict.Meets.{MarkClash}
use Rattle.edit_marks.proofs.EditConflict.Scans.{Quiet}
use Rattle.edit_marks.proofs.edit_conflict.clash.first_clash.Given as goal

abbrev pub invariant-loop-at : goal.invariant-loop-at
invariant-loop-at l = record {
  within : l.at ≤ length l.marks;
  quiet : Quiet l.settled.acts l.settled.token (drop l.at l.marks);
  left : (d : Clash) → MarkClash l.marks d → MarkClash (drop l.at l.marks) d;
}

abbrev pub decreases-loop-at : goal.decreases-loop-at
decreases-loop-at l = length l.marks - l.at
