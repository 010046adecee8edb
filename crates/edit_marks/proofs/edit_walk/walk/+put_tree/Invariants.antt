use Rattle.std.proofs.Common.{take}
use Rattle.std.specs.List.{flat_map}
use Rattle.edit_marks.specs.EditWalk.Touches.{touches_in}
use Rattle.edit_marks.specs.EditWalk.Growing.{Adds}
use Rattle.edit_marks.specs.EditWalk.WalkContexts.{IsEditHere}
use Rattle.edit_marks.proofs.edit_walk.walk.+put_tree.Given as goal

abbrev pub invariant-loop-below : goal.invariant-loop-below
invariant-loop-below l = Adds (IsEditHere l.context) l.initial.edits.items l.edits.items
    (flat_map (touches_in l.item l.inner) (take l.below-index l.below-items))
