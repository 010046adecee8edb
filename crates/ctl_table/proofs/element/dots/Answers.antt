use Rattle.std.proofs.Common.{ap, sym, subst, None}
use Rattle.ctl_formula.specs.Tables.{at, plains}
use Rattle.ctl_table.specs.Table as table
use Rattle.ctl_table.specs.declared.follow.DotsContinuation.{DotsContinuation}
use Rattle.ctl_table.specs.declared.follow.Continuation.TheVariants as made
use Rattle.ctl_table.specs.Settings.{setting_at, follow, dots_before, MakesFollow}
use Rattle.ctl_table.proofs.MakingLemmas.{made-as}
use Rattle.ctl_table.proofs.ElementLemmas.{dots-made}
use Rattle.ctl_table.proofs.element.dots.Goals as goal

pub returns : goal.returns
returns c =
    let b = c.follow_at.new.parts in
    let k = follow c.args.parts.now c.args.m.now c.args.next.now in
    record {
      made = subst (λ (z : DotsContinuation). MakesFollow (setting_at c.args.m.now) c.args.parts.now c.target.new.parts
          (made.Dots z c.in_ok-target.target None) table.Dots
          (dots_before (plains c.args.parts.now) (setting_at c.args.m.now) c.args.d.now k c.args.scope.now)) (sym c.in_ok-share.ensures.same)
          (dots-made (setting_at c.args.m.now) c.args.parts.now b c.target.new.parts c.args.d.now k c.args.scope.now c.in_ok-g.g c.in_ok-target.target
          c.requires.d c.in_ok-g.ensures.made
          (made-as b c.target.new.parts c.in_ok-target.target _ (table.target (setting_at c.args.m.now).around k.start (at (plains b) c.in_ok-g.g))
          (ap (λ (z : table.Start). table.target (setting_at c.args.m.now).around z (at (plains b) c.in_ok-g.g))
          c.start_of.ensures) c.in_ok-target.ensures.made));
    }
