use Rattle.std.proofs.Common.{ap, arith, get_or, length, refl}
use Rattle.ctl_formula.specs.Tables.{at, plains}
use Rattle.ctl_table.specs.Table as table
use Rattle.ctl_table.specs.Settings.{setting_at}
use Rattle.ctl_table.proofs.MakingLemmas.{stays, stands-still}
use Rattle.ctl_table.proofs.RowLemmas.{all-at}
use Rattle.ctl_table.proofs.EachLemmas.{no-follows, follow-as, follows-step, follows-taken}
use Rattle.ctl_table.proofs.each.part_each.Goals as goal

pub loop-f-init : goal.loop-f-init
loop-f-init c = no-follows (setting_at c.args.m.now) c.args.parts.now _ _ _ (cc)

pub part-requires : goal.part-requires
part-requires c =
    let f = get_or c.args.fs.now c.loop-f.f-index 0 in
    stands-still c.args.parts.now c.loop-f.parts f c.loop-f.invariant.grows
    (all-at (length c.args.parts.now) c.args.fs.now c.loop-f.f-index 0 f c.loop-f-test.true refl c.requires)

pub loop-f-preserved : goal.loop-f-preserved
loop-f-preserved c =
    let m = setting_at c.args.m.now in
    let a = c.args.parts.now in
    let b = c.loop-f.parts in
    let d = c.part.new.parts in
    let f = get_or c.args.fs.now c.loop-f.f-index 0 in
    let here = c.args.place.now.here in
    let kept = stays a b f c.loop-f.invariant.grows (all-at (length a) c.args.fs.now c.loop-f.f-index 0 f c.loop-f-test.true refl c.requires) in
    follows-step m a b d (λ f. table.Other) (λ f before t. table.exists_all here (at (plains a) f)) c.args.fs.now f 0
    c.loop-f.made.items _ c.loop-f.f-index c.in_ok-g.g c.loop-f-test.true refl c.in_ok-push.ensures.items c.loop-f.invariant c.in_ok-g.ensures.made.grows
    (follow-as m a b d c.in_ok-g.g table.Other (λ before t. table.exists_all here (at (plains b) f)) (λ before t. table.exists_all here (at (plains a) f))
    c.loop-f.invariant.grows (λ before t. ap (table.exists_all here) kept) c.in_ok-g.ensures.made)

pub returns : goal.returns
returns c = record {
  made = follows-taken (setting_at c.args.m.now) c.args.parts.now c.loop-f.parts _ _ c.args.fs.now c.loop-f.made.items
      c.loop-f.f-index (omega arith) c.loop-f.invariant;
}
