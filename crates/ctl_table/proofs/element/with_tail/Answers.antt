use Rattle.ctl_table.specs.Settings.{setting_at}
use Rattle.ctl_table.proofs.MadeLemmas.{tail-made}
use Rattle.ctl_table.proofs.element.with_tail.Goals as goal

pub returns-in_ok-down-in-Some : goal.returns-in_ok-down-in-Some
returns-in_ok-down-in-Some c = record {
  made = tail-made (setting_at c.args.m.now) c.args.parts.now c.own_atom.new.parts c.push.new.self c.push-in-Some.new.self c.args.vars.now c.args.tail.now _
      c.args.f c.in_ok-own-in-Some.own c.in_ok-down-in-Some.down c.push-in-Some.result c.requires c.in-Some.is
      c.in_ok-own-in-Some.ensures.made c.in_ok-down-in-Some.ensures.made c.push-in-Some.ensures.made;
}
