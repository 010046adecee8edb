use Rattle.std.proofs.Common.{List, [], sym, subst}
use Rattle.edit_marks.specs.declared.tidy.touch.TouchEdit.{TouchEdit}
use Rattle.edit_marks.specs.EditWalk.Touches.{touches_of}
use Rattle.edit_marks.specs.EditWalk.Growing.{Adds}
use Rattle.edit_marks.specs.Tidy.Touch.{IsTidyTouchHere}
use Rattle.edit_marks.proofs.EditWalk.GrowingLemmas.{adds_none, adds_more, adds_end}
use Rattle.edit_marks.proofs.tidy.walk.all_touches.Goals as goal

pub loop-witness-init : goal.loop-witness-init
loop-witness-init c =
    subst (λ (l : List TouchEdit). Adds (IsTidyTouchHere c.args.context.now) [] l []) (sym c.new-all.ensures.items)
    (adds_none (IsTidyTouchHere c.args.context.now) [])

pub loop-witness-preserved : goal.loop-witness-preserved
loop-witness-preserved c =
    adds_more (IsTidyTouchHere c.args.context.now) touches_of c.args.witnesses.now c.loop-witness.witness-index c.witness-item.result
    [] c.loop-witness.all.items c.put_witness.new.touches.items c.loop-witness-test.true c.witness-item.is c.loop-witness.invariant
    c.in_ok-put_witness.ensures

pub returns : goal.returns
returns c =
    adds_end (IsTidyTouchHere c.args.context.now) touches_of c.args.witnesses.now c.loop-witness.witness-index
    [] c.loop-witness.all.items c.loop-witness-test.false c.loop-witness.invariant
