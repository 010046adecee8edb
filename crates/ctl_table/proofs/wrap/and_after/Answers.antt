use Rattle.ctl_formula.specs.Plain as plain
use Rattle.ctl_formula.specs.Tables.{at, plains}
use Rattle.ctl_table.proofs.MakingLemmas.{made-up, stays, and-of}
use Rattle.ctl_table.proofs.wrap.and_after.Goals as goal

pub returns : goal.returns
returns c =
    let m = c.in_ok-past.ensures.made in
    let e = stays c.args.parts.now c.push.new.self c.args.f m.grows c.requires.f in
    record {
      made = made-up c.args.parts.now c.push.new.self c.push-2.new.self c.push-2.result _ _ m.grows
          (and-of (at (plains c.push.new.self) c.args.f) (at (plains c.push.new.self) c.in_ok-past.past)
          (at (plains c.args.parts.now) c.args.f) (plain.After (at (plains c.args.parts.now) c.args.g)) e m.is) c.push-2.ensures.made;
    }
