use Rattle.std.proofs.Common.{take}
use Rattle.edit_marks.specs.EditWalk.Touches.{touches}
use Rattle.edit_marks.specs.EditWalk.Growing.{Adds}
use Rattle.edit_marks.specs.EditWalk.WalkContexts.{IsEditHere}
use Rattle.edit_marks.proofs.edit_walk.walk.put_witnesses.Given as goal

abbrev pub invariant-loop-witness : goal.invariant-loop-witness
invariant-loop-witness l = Adds (IsEditHere l.context) l.initial.edits.items l.edits.items (touches (take l.witness-index l.witnesses))
