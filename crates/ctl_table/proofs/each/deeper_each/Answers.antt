use Rattle.std.proofs.Common.{arith, length}
use Rattle.ctl_table.specs.Settings.{setting_at, made_below}
use Rattle.ctl_table.proofs.FollowLemmas.{made-stands}
use Rattle.ctl_table.proofs.EachLemmas.{item-is, no-same, same-step, same-taken}
use Rattle.ctl_table.proofs.each.deeper_each.Goals as goal

pub loop-next-init : goal.loop-next-init
loop-next-init c = no-same (setting_at c.args.m.now) c.args.scope.now c.args.parts.now _ (cc)

pub deeper-requires : goal.deeper-requires
deeper-requires c =
    made-stands c.args.parts.now c.loop-next.parts c.next-item.result c.loop-next.invariant.grows
    (item-is (made_below (length c.args.parts.now)) c.args.nexts.now c.loop-next.next-index c.next-item.result
    c.next-item.result c.loop-next-test.true c.next-item.is c.requires)

pub loop-next-preserved : goal.loop-next-preserved
loop-next-preserved c =
    same-step (setting_at c.args.m.now) c.args.scope.now c.args.parts.now c.loop-next.parts c.deeper.new.parts c.args.nexts.now
    c.next-item.result c.next-item.result
    c.loop-next.found.items _ c.loop-next.next-index c.in_ok-g.g c.loop-next-test.true c.next-item.is c.in_ok-push.ensures.items
    c.requires c.loop-next.invariant c.in_ok-g.ensures.made

pub returns : goal.returns
returns c = record {
  made = same-taken (setting_at c.args.m.now) c.args.scope.now c.args.parts.now c.loop-next.parts c.args.nexts.now
      c.loop-next.found.items c.loop-next.next-index (omega arith) c.loop-next.invariant;
}
