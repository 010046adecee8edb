use Rattle.edit_marks.specs.EditWalk.Touches.{touches_in}
use Rattle.edit_marks.specs.Tidy.Touch.{IsTidyTouchHere}
use Rattle.edit_marks.proofs.EditWalk.GrowingLemmas.{adds_none, adds_more}
use Rattle.edit_marks.proofs.EditWalk.TouchLemmas.{bind_adds}
use Rattle.edit_marks.proofs.tidy.walk.+put_tree.Goals as goal

pub loop-below-preserved : goal.loop-below-preserved
loop-below-preserved t c =
    adds_more (IsTidyTouchHere c.args.context.now) (touches_in c.args.item c.in_ok-deeper-in-Bind.deeper) c.as_slice-below-items.result.now c.loop-below.below-index
    c.below-item.result c.args.touches.now.items c.loop-below.touches.items c.put_tree.new.touches.items c.loop-below-test.true c.below-item.is c.loop-below.invariant
    c.in_ok-put_tree-in-Bind.ensures

pub returns-after-loop-below : goal.returns-after-loop-below
returns-after-loop-below t c =
    bind_adds (IsTidyTouchHere c.args.context.now) c.args.touches.now.items c.loop-below.touches.items c.args.item c.in-Bind.field-0 c.in-Bind.x c.in-Bind.value
    c.in-Bind.under c.as_slice-below-items.result.now c.args.env.now c.in_ok-deeper-in-Bind.deeper c.args.tree.now c.loop-below.below-index
    c.in-Bind.is c.as_slice-below-items.ensures c.in_ok-deeper-in-Bind.ensures c.loop-below-test.false c.loop-below.invariant

pub loop-below-init : goal.loop-below-init
loop-below-init t c = adds_none (IsTidyTouchHere c.args.context.now) c.args.touches.now.items
