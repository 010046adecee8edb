use Rattle.std.proofs.Common.{get_or, refl}
use Rattle.ctl_table.proofs.ChoiceLemmas.{exclude-made}
use Rattle.ctl_table.proofs.wrap.exclude.Goals as goal

pub returns-in_ok-push : goal.returns-in_ok-push
returns-in_ok-push c = record {
  made = exclude-made c.args.parts.now c.push.new.self c.args.alone.now c.args.earlier.now.items
      c.push-then-i-alone.new.self.items c.args.i 0 (get_or c.args.alone.now c.args.i 0)
      c.in_ok-not.not c.if-i-alone.true refl c.requires.earlier c.in_ok-not.ensures.made c.in_ok-push.ensures.items;
}
