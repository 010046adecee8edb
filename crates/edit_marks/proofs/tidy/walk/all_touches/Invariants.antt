use Rattle.std.proofs.Common.{[], take}
use Rattle.edit_marks.specs.EditWalk.Touches.{touches}
use Rattle.edit_marks.specs.EditWalk.Growing.{Adds}
use Rattle.edit_marks.specs.Tidy.Touch.{IsTidyTouchHere}
use Rattle.edit_marks.proofs.tidy.walk.all_touches.Given as goal

abbrev pub invariant-loop-witness : goal.invariant-loop-witness
invariant-loop-witness l = Adds (IsTidyTouchHere l.context) [] l.all.items (touches (take l.witness-index l.witnesses))
