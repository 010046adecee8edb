use Rattle.std.proofs.Common.{arith}
use Rattle.ctl_translate.proofs.CtlBound.MarkLemmas.{group-put}
use Rattle.ctl_translate.proofs.ctl_bound.naming.put_in_group.Goals as goal

pub returns-in_ok-push-clause-marks : goal.returns-in_ok-push-clause-marks
returns-in_ok-push-clause-marks c = λ i k within.
    group-put c.args.groups.now.items c.args.mark.now c.index_mut.result.now c.push.new.self
    (omega (arith, c.if-group-len.true, c.len.ensures)) (grind (arith, c.index_mut.ensures.value)) c.in_ok-push.ensures.items i k
