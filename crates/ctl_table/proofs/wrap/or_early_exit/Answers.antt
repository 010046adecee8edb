use Rattle.std.proofs.Common.{◌∙◌, sym, ap}
use Rattle.ctl_formula.specs.Plain as plain
use Rattle.ctl_table.specs.Table as table
use Rattle.ctl_formula.specs.Tables.{at, plains}
use Rattle.ctl_table.proofs.MakingLemmas.{made-up, stays, or-of}
use Rattle.ctl_table.proofs.wrap.or_early_exit.Goals as goal

pub returns : goal.returns
returns c =
    let m = c.in_ok-bail.ensures.made in
    let e = stays c.args.parts.now c.push.new.self c.args.t m.grows c.requires in
    record {
      made = made-up c.args.parts.now c.push.new.self c.push-2.new.self c.push-2.result _ _ m.grows
          (or-of (at (plains c.push.new.self) c.args.t) (at (plains c.push.new.self) c.in_ok-bail.bail)
          (at (plains c.args.parts.now) c.args.t) plain.EarlyExit e m.is
          ∙ ap (λ b. table.or_early_exit b (at (plains c.args.parts.now) c.args.t)) (sym c.if-strict.false)) c.push-2.ensures.made;
    }
