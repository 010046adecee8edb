use Rattle.std.proofs.Common.{take}
use Rattle.edit_marks.specs.Tidy.Bodies.{AddsFlags, is_at}
use Rattle.edit_marks.proofs.tidy.bodies.put_inserts.Given as goal

abbrev pub invariant-loop-insert : goal.invariant-loop-insert
invariant-loop-insert l = AddsFlags l.initial.flags.items l.flags.items (is_at (take l.insert-index l.inserts))
