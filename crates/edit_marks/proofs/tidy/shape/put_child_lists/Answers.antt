use Rattle.std.proofs.Common.{refl}
use Rattle.edit_marks.proofs.Tidied.GatherLemmas.{lists_more, lists_end}
use Rattle.edit_marks.proofs.tidy.shape.put_child_lists.Goals as goal

pub loop-i-init : goal.loop-i-init
loop-i-init c = refl

pub loop-i-preserved : goal.loop-i-preserved
loop-i-preserved c =
    let b = c.args.branch.now in
    lists_more c.args.all b.bounds.now b.children.now c.loop-i.i c.child-item.result c.range_at.result
    c.loop-i.lists.items c.put_child_list.new.lists.items _ c.loop-i-test.true c.child-item.is c.range_at.ensures c.in_ok-put_child_list.ensures
    c.loop-i.invariant

pub returns : goal.returns
returns c =
    let b = c.args.branch.now in
    lists_end c.args.all b.bounds.now b.children.now c.loop-i.i c.loop-i.lists.items _ c.loop-i-test.false c.loop-i.invariant
