use Rattle.edit_bodies.proofs.CalmLemmas.{lines_more}
use Rattle.edit_bodies.proofs.calm.behind_lines.Goals as goal

pub loop-i-preserved : goal.loop-i-preserved
loop-i-preserved c =
    lines_more c.args.lexed.now c.loop-i.i _ c.loop-i.flags.items c.put_flag.new.flags.items _ c.loop-i.after c.after_line-after.result
    c.piece-kind.ensures.piece c.in_ok-put_flag.ensures c.after_line-after.ensures c.loop-i.invariant
