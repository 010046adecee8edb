use Rattle.edit_marks.specs.EditWalk.Touches.{touches_in}
use Rattle.edit_marks.specs.Tidy.Touch.{IsTidyTouchHere}
use Rattle.edit_marks.proofs.EditWalk.GrowingLemmas.{adds_none, adds_more, adds_end}
use Rattle.edit_marks.proofs.tidy.walk.put_forest.Goals as goal

pub loop-tree-init : goal.loop-tree-init
loop-tree-init c = adds_none (IsTidyTouchHere c.args.context.now) c.args.touches.now.items

pub loop-tree-preserved : goal.loop-tree-preserved
loop-tree-preserved c =
    adds_more (IsTidyTouchHere c.args.context.now) (touches_in c.args.item c.args.env.now) c.args.forest.now c.loop-tree.tree-index c.tree-item.result
    c.args.touches.now.items c.loop-tree.touches.items c.put_tree.new.touches.items c.loop-tree-test.true c.tree-item.is
    c.loop-tree.invariant c.in_ok-put_tree.ensures

pub returns : goal.returns
returns c =
    adds_end (IsTidyTouchHere c.args.context.now) (touches_in c.args.item c.args.env.now) c.args.forest.now c.loop-tree.tree-index
    c.args.touches.now.items c.loop-tree.touches.items c.loop-tree-test.false c.loop-tree.invariant
