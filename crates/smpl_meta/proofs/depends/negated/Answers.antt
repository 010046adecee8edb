use Rattle.smpl_meta.proofs.Takes.{takes_open}
use Rattle.smpl_meta.proofs.depends.negated.Goals as goal

pub returns-in-Open : goal.returns-in-Open
returns-in-Open c = rw c.in_ok-push-in-Open.ensures.ok
    (takes_open c.args.pending c.loop-last.pending c.pop.new.self c.args.operand c.loop-last.dep c.in-Open.a c.in-Open.b
    c.loop-last.invariant (rw c.in-Open.is at c.in-Some.ensures))
