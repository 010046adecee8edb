use Rattle.iso_file.proofs.Trees.{none_at, more_at}
use Rattle.iso_file.proofs.tree.trees_of.Goals as goal

pub returns-in-None : goal.returns-in-None
returns-in-None c =
    none_at c.args.vars.now c.args.sides.now c.loop-side.side-index c.as_slice.result.now c.side-item.result
    c.in_ok-tree_of.field-0 c.loop-side-test.true c.as_slice.ensures
    c.side-item.is c.in_ok-tree_of.ensures c.in-None.is

pub loop-side-preserved : goal.loop-side-preserved
loop-side-preserved c =
    more_at c.args.vars.now c.args.sides.now c.loop-side.side-index c.as_slice.result.now c.side-item.result
    c.in_ok-tree_of.field-0 c.in-Some.tree c.loop-side.trees c.push.new.self
    c.loop-side-test.true c.as_slice.ensures c.side-item.is c.in_ok-tree_of.ensures c.in-Some.is c.loop-side.invariant c.in_ok-push-in-Some.ensures.ok
