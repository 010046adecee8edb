use Rattle.std.proofs.Common.{◌∙◌, ap}
use Rattle.ctl_formula.specs.Plain as plain
use Rattle.ctl_formula.specs.Tables.{at, plains}
use Rattle.ctl_table.proofs.MakingLemmas.{made-up, stays, or-of}
use Rattle.ctl_table.proofs.wrap.or_outside.Goals as goal

pub returns : goal.returns
returns c =
    let m = c.in_ok-outside.ensures.made in
    let e = stays c.args.parts.now c.push.new.self c.args.f m.grows c.requires in
    record {
      made = made-up c.args.parts.now c.push.new.self c.push-2.new.self c.push-2.result _ _ m.grows
          (or-of (at (plains c.push.new.self) c.args.f) (at (plains c.push.new.self) c.in_ok-outside.outside)
          (at (plains c.args.parts.now) c.args.f) (plain.Outside c.args.b.now) e (m.is ∙ ap plain.Outside c.in_ok-b.ensures.same))
          c.push-2.ensures.made;
    }
