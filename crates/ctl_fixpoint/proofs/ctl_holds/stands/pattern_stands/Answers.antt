use Rattle.std.proofs.Common.{sym, ◌∙◌}
use Rattle.ctl_fixpoint.proofs.CtlHolds.StandLemmas.{stands_if}
use Rattle.ctl_fixpoint.proofs.ctl_holds.stands.pattern_stands.Goals as goal

pub returns : goal.returns
returns c = λ e.
    stands_if c.args.decls.now c.args.tokens.now c.args.p.now c.args.absent.now
    (sym c.is_sure.ensures.value ∙ c.if-is_sure.false) (sym c.stands.ensures.value ∙ c.if-stands.false)
