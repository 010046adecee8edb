use Rattle.std.proofs.Common.{◌<◌, length, arith}
use Rattle.c_file.proofs.ItemGraphs.ReachLemmas.{reached_more, reached_same}
use Rattle.c_file.proofs.item_graphs.reached.reach.Goals as goal

pub loop-reached-preserved : goal.loop-reached-preserved
loop-reached-preserved c =
    let lt : c.loop-reached.reached.next < length c.args.items.now = omega (arith, c.loop-reached-test.true, c.requires.within) in
    record {
      reached = reached_more c.args.items.now c.loop-reached.reached c.index-items-next.result c.add_item.new.scope c.loop-reached.invariant.reached lt
          c.index-items-next.is c.in_ok-add_item.ensures.ok;
      before = omega arith;
    }

pub returns-in_err-add_item-clause-after : goal.returns-in_err-add_item-clause-after
returns-in_err-add_item-clause-after c =
    reached_same c.args.items.now c.loop-reached.reached c.add_item.new.scope c.loop-reached.invariant.reached c.in_err-add_item.ensures.err
