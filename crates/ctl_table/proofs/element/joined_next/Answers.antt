use Rattle.ctl_table.specs.Settings.{setting_at, start_at}
use Rattle.ctl_table.proofs.MadeLemmas.{joined-made}
use Rattle.ctl_table.proofs.element.joined_next.Goals as goal

pub returns-in_ok-g-in_default : goal.returns-in_ok-g-in_default
returns-in_ok-g-in_default c = record {
  made = joined-made (setting_at c.args.m.now) c.args.parts.now c.follow_at.new.parts c.joined.new.parts c.args.next.now
      c.args.scope.now c.args.statement (start_at c.start_of.result) c.args.f c.in_ok-g-in_default.g c.joined.result
      c.requires.f c.start_of.ensures c.in_ok-g-in_default.ensures.made c.joined.ensures.made;
}
