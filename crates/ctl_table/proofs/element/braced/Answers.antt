use Rattle.ctl_table.proofs.MadeLemmas.{braced-made}
use Rattle.ctl_table.proofs.element.braced.Goals as goal

pub returns : goal.returns
returns c = record {
  made = braced-made c.args.parts.now c.own_open.new.parts c.push.new.self c.push-2.new.self c.push-3.new.self c.args.v _ c.args.inside
      c.in_ok-open.open c.in_ok-down.down c.in_ok-both.both c.push-3.result c.requires
      c.in_ok-open.ensures.made c.in_ok-down.ensures.made c.in_ok-both.ensures.made c.push-3.ensures.made;
}
