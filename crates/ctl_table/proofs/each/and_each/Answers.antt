use Rattle.std.proofs.Common.{◌∙◌, ap, arith, get_or, length, refl, List}
use Rattle.ctl_formula.specs.Plain.{Plain}
use Rattle.ctl_formula.specs.Tables.{at, plains}
use Rattle.ctl_table.specs.Table as table
use Rattle.ctl_table.specs.Settings.{parts_at}
use Rattle.ctl_table.proofs.MakingLemmas.{all-stand, all-stay, stays, stands-still}
use Rattle.ctl_table.proofs.RowLemmas.{init-all, all-at}
use Rattle.ctl_table.proofs.EachLemmas.{map-step, map-taken}
use Rattle.ctl_table.proofs.each.and_each.Goals as goal

pub loop-f-init : goal.loop-f-init
loop-f-init c = init-all c.args.parts.now _ (cc)

pub and_all-requires : goal.and_all-requires
and_all-requires c =
    let f = get_or c.args.fs.now c.loop-f.f-index 0 in
    record {
      f = stands-still c.args.parts.now c.loop-f.parts f c.loop-f.invariant.grows
          (all-at (length c.args.parts.now) c.args.fs.now c.loop-f.f-index 0 f c.loop-f-test.true refl c.requires.fs);
      more = all-stand c.args.parts.now c.loop-f.parts c.args.more.now c.loop-f.invariant.grows c.requires.more;
    }

pub loop-f-preserved : goal.loop-f-preserved
loop-f-preserved c =
    let a = c.args.parts.now in
    let b = c.loop-f.parts in
    let f = get_or c.args.fs.now c.loop-f.f-index 0 in
    map-step a b c.and_all.new.parts (λ f. table.and_all (at (plains a) f) (parts_at a c.args.more.now)) c.args.fs.now f 0
    c.loop-f.made.items _ c.loop-f.f-index c.in_ok-g.g (table.and_all (at (plains b) f) (parts_at b c.args.more.now))
    c.loop-f-test.true refl
    (ap (λ (p : Plain). table.and_all p (parts_at b c.args.more.now))
    (stays a b f c.loop-f.invariant.grows (all-at (length a) c.args.fs.now c.loop-f.f-index 0 f c.loop-f-test.true refl c.requires.fs))
    ∙ ap (λ (ps : List Plain). table.and_all (at (plains a) f) ps) (all-stay a b c.args.more.now c.loop-f.invariant.grows c.requires.more))
    c.in_ok-push.ensures.items c.loop-f.invariant c.in_ok-g.ensures.made

pub returns : goal.returns
returns c = record {
  made = map-taken c.args.parts.now c.loop-f.parts _ c.args.fs.now c.loop-f.made.items c.loop-f.f-index (omega arith) c.loop-f.invariant;
}
