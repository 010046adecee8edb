use Rattle.std.proofs.Common.{length, ap, ◌∙◌, arith}
use Rattle.ctl_formula.specs.Plain.{Plain, And, After}
use Rattle.ctl_formula.specs.Tables.{at, plains}
use Rattle.ctl_table.specs.Table as table
use Rattle.ctl_table.specs.Settings.{setting_at, made_below, next_of}
use Rattle.ctl_table.proofs.MakingLemmas.{stays, stands-still}
use Rattle.ctl_table.proofs.FollowLemmas.{made-stands, follow-stays}
use Rattle.ctl_table.proofs.RowLemmas.{init-all}
use Rattle.ctl_table.proofs.EachLemmas.{item-is, map-step, map-taken}
use Rattle.ctl_table.proofs.each.after_each.Goals as goal

pub loop-next-init : goal.loop-next-init
loop-next-init c = init-all c.args.parts.now _ (cc)

pub after_next-requires : goal.after_next-requires
after_next-requires c = record {
  f = stands-still c.args.parts.now c.loop-next.parts c.args.f c.loop-next.invariant.grows c.requires.f;
  next = made-stands c.args.parts.now c.loop-next.parts c.next-item.result c.loop-next.invariant.grows
      (item-is (made_below (length c.args.parts.now)) c.args.nexts.now c.loop-next.next-index c.next-item.result
      c.next-item.result c.loop-next-test.true c.next-item.is c.requires.nexts);
}

pub loop-next-preserved : goal.loop-next-preserved
loop-next-preserved c =
    let a = c.args.parts.now in
    let b = c.loop-next.parts in
    let x = c.next-item.result in
    let m = setting_at c.args.m.now in
    let row = λ (p : Plain) (k : table.Follow). And p (After (k.at c.args.scope.now)) in
    map-step a b c.after_next.new.parts (λ n. row (at (plains a) c.args.f) (next_of (plains a) m n)) c.args.nexts.now x x
    c.loop-next.made.items _ c.loop-next.next-index c.in_ok-g.g (row (at (plains b) c.args.f) (next_of (plains b) m x))
    c.loop-next-test.true c.next-item.is
    (ap (λ (p : Plain). row p (next_of (plains b) m x)) (stays a b c.args.f c.loop-next.invariant.grows c.requires.f)
    ∙ ap (row (at (plains a) c.args.f)) (follow-stays a b m x c.loop-next.invariant.grows
    (item-is (made_below (length a)) c.args.nexts.now c.loop-next.next-index x x c.loop-next-test.true c.next-item.is c.requires.nexts)))
    c.in_ok-push.ensures.items c.loop-next.invariant c.in_ok-g.ensures.made

pub returns : goal.returns
returns c = record {
  made = map-taken c.args.parts.now c.loop-next.parts _ c.args.nexts.now c.loop-next.made.items c.loop-next.next-index (omega arith) c.loop-next.invariant;
}
