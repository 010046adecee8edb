use Rattle.ctl_translate.proofs.CtlBound.NamingLemmas.{bit-put}
use Rattle.ctl_translate.proofs.ctl_bound.naming.put_bit.Goals as goal

pub returns-then-mark-named : goal.returns-then-mark-named
returns-then-mark-named c =
    bit-put c.args.named.now c.args.mark.now.part c.args.mark.now.variable c.args.group c.if-mark-group.true c.if-mark-named.true
