use Rattle.ctl_table.proofs.MadeLemmas.{not-made}
use Rattle.ctl_table.proofs.element.not_piece.Goals as goal

pub returns : goal.returns
returns c = record {
  made = not-made c.args.parts.now c.exists_all.new.parts c.push.new.self c.in_ok-f.f _ c.push.result
      c.in_ok-f.ensures.made c.push.ensures.made;
}
