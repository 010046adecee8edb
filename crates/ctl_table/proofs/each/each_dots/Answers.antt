use Rattle.std.proofs.Common.{arith, length}
use Rattle.ctl_formula.specs.Tables.{plains}
use Rattle.ctl_table.specs.Table as table
use Rattle.ctl_table.specs.Settings.{setting_at, made_below, next_of, dots_before}
use Rattle.ctl_table.proofs.FollowLemmas.{made-stands, dots-stand}
use Rattle.ctl_table.proofs.EachLemmas.{item-is, no-follows, follow-as, follows-step, follows-taken}
use Rattle.ctl_table.proofs.SuffixLemmas.{dots_before-stays}
use Rattle.ctl_table.proofs.each.each_dots.Goals as goal

pub loop-next-init : goal.loop-next-init
loop-next-init c = no-follows (setting_at c.args.m.now) c.args.parts.now _ _ _ (cc)

pub dots-requires : goal.dots-requires
dots-requires c = record {
  d = dots-stand c.args.parts.now c.loop-next.parts c.args.d.now c.loop-next.invariant.grows c.requires.d;
  next = made-stands c.args.parts.now c.loop-next.parts c.next-item.result c.loop-next.invariant.grows
      (item-is (made_below (length c.args.parts.now)) c.args.nexts.now c.loop-next.next-index c.next-item.result
      c.next-item.result c.loop-next-test.true c.next-item.is c.requires.nexts);
}

pub loop-next-preserved : goal.loop-next-preserved
loop-next-preserved c =
    let m = setting_at c.args.m.now in
    let a = c.args.parts.now in
    let b = c.loop-next.parts in
    let d = c.dots.new.parts in
    let x = c.next-item.result in
    let row = λ (ns : _). dots_before (plains ns) m c.args.d.now (next_of (plains ns) m x) c.args.scope.now in
    follows-step m a b d (λ n. table.Dots)
    (λ n. dots_before (plains a) m c.args.d.now (next_of (plains a) m n) c.args.scope.now) c.args.nexts.now x x
    c.loop-next.made.items _ c.loop-next.next-index c.in_ok-g.g c.loop-next-test.true c.next-item.is c.in_ok-push.ensures.items
    c.loop-next.invariant c.in_ok-g.ensures.made.grows
    (follow-as m a b d c.in_ok-g.g table.Dots (row b) (row a) c.loop-next.invariant.grows
    (λ s t. dots_before-stays m a b c.args.d.now x c.args.scope.now s t c.loop-next.invariant.grows c.requires.d
    (item-is (made_below (length a)) c.args.nexts.now c.loop-next.next-index x x c.loop-next-test.true c.next-item.is c.requires.nexts))
    c.in_ok-g.ensures.made)

pub returns : goal.returns
returns c = record {
  made = follows-taken (setting_at c.args.m.now) c.args.parts.now c.loop-next.parts _ _ c.args.nexts.now c.loop-next.made.items
      c.loop-next.next-index (omega arith) c.loop-next.invariant;
}
