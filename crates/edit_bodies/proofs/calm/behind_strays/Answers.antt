use Rattle.edit_bodies.proofs.CalmLemmas.{strays_more}
use Rattle.edit_bodies.proofs.calm.behind_strays.Goals as goal

pub loop-i-preserved : goal.loop-i-preserved
loop-i-preserved c =
    strays_more c.args.lexed.now c.loop-i.i _ c.loop-i.flags.items c.put_flag.new.flags.items _ c.loop-i.after c.after_stray-after.result
    c.piece-kind.ensures.piece c.in_ok-put_flag.ensures c.after_stray-after.ensures c.loop-i.invariant
