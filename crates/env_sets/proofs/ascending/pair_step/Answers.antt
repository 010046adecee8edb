use Rattle.std.proofs.Common.{sym, ◌∙◌}
use Rattle.env_sets.proofs.AscendingLemmas.{pair_less, pair_equal}
use Rattle.env_sets.proofs.ascending.pair_step.Goals as goal

pub returns-then-same_var-clause-less : goal.returns-then-same_var-clause-less
returns-then-same_var-clause-less c =
    pair_less c.args.p.now c.args.q.now c.in-Is-Is.v c.in-Is-Is.w c.value_order.result c.in-Is-Is.is-0 c.in-Is-Is.is-1
    (sym c.same_var.ensures.value ∙ c.if-same_var.true) c.value_order.ensures.value

pub returns-then-same_var-clause-equal : goal.returns-then-same_var-clause-equal
returns-then-same_var-clause-equal c =
    pair_equal c.args.p.now c.args.q.now c.in-Is-Is.v c.in-Is-Is.w c.value_order.result c.in-Is-Is.is-0 c.in-Is-Is.is-1
    (sym c.same_var.ensures.value ∙ c.if-same_var.true) c.value_order.ensures.value
