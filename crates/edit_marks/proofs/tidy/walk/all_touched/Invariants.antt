use Rattle.std.proofs.Common.{◌≡◌, ◌++◌, drop}
use Rattle.edit_marks.specs.Tidy.Walk.{touched_of}
use Rattle.edit_marks.proofs.tidy.walk.all_touched.Given as goal

abbrev pub invariant-loop-touch : goal.invariant-loop-touch
invariant-loop-touch l = l.items.items ++ touched_of (drop l.touch-index l.touches) ≡ touched_of l.touches
