use Rattle.std.proofs.Common.{length, refl}
use Rattle.edit_marks.proofs.Tidied.GatherLemmas.{bodies_more, bodies_end}
use Rattle.edit_marks.proofs.tidy.shape.put_bodies.Goals as goal

pub loop-i-init : goal.loop-i-init
loop-i-init c = refl

pub loop-i-preserved : goal.loop-i-preserved
loop-i-preserved c =
    let b = c.args.branch.now in
    bodies_more b.item c.args.path.now b.label b.bounds.now (length b.children.now) b.children.now c.loop-i.i c.child-item.result
    c.loop-i.bodies.items c.put_body.new.bodies.items _ c.loop-i-test.true c.child-item.is c.in_ok-put_body.ensures c.loop-i.invariant

pub returns : goal.returns
returns c =
    let b = c.args.branch.now in
    bodies_end b.item c.args.path.now b.label b.bounds.now (length b.children.now) b.children.now c.loop-i.i c.loop-i.bodies.items _
    c.loop-i-test.false c.loop-i.invariant
