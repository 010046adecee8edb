use Rattle.std.proofs.Common.{take}
use Rattle.std.specs.List.{flat_map}
use Rattle.edit_marks.specs.EditWalk.Touches.{touches_in}
use Rattle.edit_marks.specs.EditWalk.Growing.{Adds}
use Rattle.edit_marks.specs.EditWalk.WalkContexts.{IsEditHere}
use Rattle.edit_marks.proofs.edit_walk.walk.put_forest.Given as goal

abbrev pub invariant-loop-tree : goal.invariant-loop-tree
invariant-loop-tree l = Adds (IsEditHere l.context) l.initial.edits.items l.edits.items (flat_map (touches_in l.item l.env) (take l.tree-index l.forest))
