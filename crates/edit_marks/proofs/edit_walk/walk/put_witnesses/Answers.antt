use Rattle.edit_marks.specs.EditWalk.Touches.{touches_of}
use Rattle.edit_marks.specs.EditWalk.WalkContexts.{IsEditHere}
use Rattle.edit_marks.proofs.EditWalk.GrowingLemmas.{adds_none, adds_more, adds_end}
use Rattle.edit_marks.proofs.edit_walk.walk.put_witnesses.Goals as goal

pub loop-witness-init : goal.loop-witness-init
loop-witness-init c = adds_none (IsEditHere c.args.context.now) c.args.edits.now.items

pub loop-witness-preserved : goal.loop-witness-preserved
loop-witness-preserved c =
    adds_more (IsEditHere c.args.context.now) touches_of c.args.witnesses.now c.loop-witness.witness-index c.witness-item.result
    c.args.edits.now.items c.loop-witness.edits.items c.put_witness.new.edits.items c.loop-witness-test.true c.witness-item.is c.loop-witness.invariant
    c.in_ok-put_witness.ensures

pub returns : goal.returns
returns c =
    adds_end (IsEditHere c.args.context.now) touches_of c.args.witnesses.now c.loop-witness.witness-index
    c.args.edits.now.items c.loop-witness.edits.items c.loop-witness-test.false c.loop-witness.invariant
