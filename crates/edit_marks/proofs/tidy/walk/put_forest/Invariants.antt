use Rattle.std.proofs.Common.{take}
use Rattle.std.specs.List.{flat_map}
use Rattle.edit_marks.specs.EditWalk.Touches.{touches_in}
use Rattle.edit_marks.specs.EditWalk.Growing.{Adds}
use Rattle.edit_marks.specs.Tidy.Touch.{IsTidyTouchHere}
use Rattle.edit_marks.proofs.tidy.walk.put_forest.Given as goal

abbrev pub invariant-loop-tree : goal.invariant-loop-tree
invariant-loop-tree l = Adds (IsTidyTouchHere l.context) l.initial.touches.items l.touches.items
    (flat_map (touches_in l.item l.env) (take l.tree-index l.forest))
