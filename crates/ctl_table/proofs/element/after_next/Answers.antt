use Rattle.ctl_table.specs.Settings.{follow}
use Rattle.ctl_table.proofs.MakingLemmas.{stays}
use Rattle.ctl_table.proofs.RowLemmas.{past-made}
use Rattle.ctl_formula.specs.Tables.{at, plains}
use Rattle.ctl_table.proofs.element.after_next.Goals as goal

pub returns : goal.returns
returns c = record {
  made = past-made c.args.parts.now c.follow_at.new.parts c.and_after.new.parts c.and_after.result c.args.f c.in_ok-g.g (at (plains c.args.parts.now) c.args.f)
      ((follow c.args.parts.now c.args.m.now c.args.next.now).at c.args.scope.now) c.in_ok-g.ensures.made.grows
      (stays c.args.parts.now c.follow_at.new.parts c.args.f c.in_ok-g.ensures.made.grows c.requires.f) c.in_ok-g.ensures.made.is c.and_after.ensures.made;
}
