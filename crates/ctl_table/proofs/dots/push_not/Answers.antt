use Rattle.ctl_table.proofs.DotsLemmas.{not-made}
use Rattle.ctl_table.proofs.dots.push_not.Goals as goal

pub returns-in_ok-push : goal.returns-in_ok-push
returns-in_ok-push c = record {
  made = not-made c.args.parts.now c.push.new.self c.args.found.now.items c.push-in-Some.new.self.items _ c.in-Some.f c.in_ok-not.not
      c.in-Some.is c.requires.found c.in_ok-not.ensures.made c.in_ok-push.ensures.items;
}
