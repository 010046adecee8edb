use Rattle.std.proofs.Common.{take}
use Rattle.edit_marks.specs.Tidy.Bodies.{AddsFlags, is_after}
use Rattle.edit_marks.proofs.tidy.bodies.put_after.Given as goal

abbrev pub invariant-loop-insert : goal.invariant-loop-insert
invariant-loop-insert l = AddsFlags l.initial.flags.items l.flags.items (is_after (take l.insert-index l.inserts))
