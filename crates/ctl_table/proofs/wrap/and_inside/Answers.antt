use Rattle.std.proofs.Common.{◌∙◌, ap}
use Rattle.ctl_formula.specs.Plain as plain
use Rattle.ctl_formula.specs.Tables.{at, plains}
use Rattle.ctl_table.proofs.MakingLemmas.{made-up, stays, and-of}
use Rattle.ctl_table.proofs.wrap.and_inside.Goals as goal

pub returns : goal.returns
returns c =
    let m = c.in_ok-inside.ensures.made in
    let e = stays c.args.parts.now c.push.new.self c.args.f m.grows c.requires in
    record {
      made = made-up c.args.parts.now c.push.new.self c.push-2.new.self c.push-2.result _ _ m.grows
          (and-of (at (plains c.push.new.self) c.in_ok-inside.inside) (at (plains c.push.new.self) c.args.f)
          (plain.Inside c.args.b.now) (at (plains c.args.parts.now) c.args.f) (m.is ∙ ap plain.Inside c.in_ok-b.ensures.same) e)
          c.push-2.ensures.made;
    }
