use Rattle.std.proofs.Common.{length, arith}
use Rattle.ctl_formula.specs.Tables.{plains}
use Rattle.ctl_table.specs.Settings.{setting_at, made_below, next_at}
use Rattle.ctl_table.proofs.FollowLemmas.{made-stands, next-stays}
use Rattle.ctl_table.proofs.RowLemmas.{init-all}
use Rattle.ctl_table.proofs.EachLemmas.{item-is, map-step, map-taken}
use Rattle.ctl_table.proofs.each.follows_at.Goals as goal

pub loop-next-init : goal.loop-next-init
loop-next-init c = init-all c.args.parts.now _ (cc)

pub follow_at-requires : goal.follow_at-requires
follow_at-requires c =
    made-stands c.args.parts.now c.loop-next.parts c.next-item.result c.loop-next.invariant.grows
    (item-is (made_below (length c.args.parts.now)) c.args.nexts.now c.loop-next.next-index c.next-item.result
    c.next-item.result c.loop-next-test.true c.next-item.is c.requires)

pub loop-next-preserved : goal.loop-next-preserved
loop-next-preserved c =
    let a = c.args.parts.now in
    let b = c.loop-next.parts in
    let x = c.next-item.result in
    let m = setting_at c.args.m.now in
    map-step a b c.follow_at.new.parts (λ n. next_at (plains a) m n c.args.scope.now) c.args.nexts.now x x
    c.loop-next.made.items _ c.loop-next.next-index c.in_ok-g.g (next_at (plains b) m x c.args.scope.now)
    c.loop-next-test.true c.next-item.is
    (next-stays a b m x c.args.scope.now c.loop-next.invariant.grows
    (item-is (made_below (length a)) c.args.nexts.now c.loop-next.next-index x x c.loop-next-test.true c.next-item.is c.requires))
    c.in_ok-push.ensures.items c.loop-next.invariant c.in_ok-g.ensures.made

pub returns : goal.returns
returns c = record {
  made = map-taken c.args.parts.now c.loop-next.parts (λ n. next_at (plains c.args.parts.now) (setting_at c.args.m.now) n c.args.scope.now)
      c.args.nexts.now c.loop-next.made.items c.loop-next.next-index (omega arith) c.loop-next.invariant;
}
