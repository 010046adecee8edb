use Rattle.std.proofs.Common.{sym, ◌∙◌, arith}
use Rattle.env_sets.proofs.RemovedLemmas.{side_less, side_greater, side_equal}
use Rattle.env_sets.proofs.removed.side_at.Goals as goal

pub returns-then-same_var-clause-less : goal.returns-then-same_var-clause-less
returns-then-same_var-clause-less c = λ h.
    side_less c.args.e.now c.pairs.result.now c.p-item.result c.args.x.now c.args.v.now c.in-Is.w c.value_order.result c.pairs.ensures.pairs
    (omega (arith, c.in-len1-up.len_at_least)) c.p-item.is c.in-Is.is (sym c.same_var.ensures.value ∙ c.if-same_var.true) c.value_order.ensures.value (cc)

pub returns-then-same_var-clause-greater : goal.returns-then-same_var-clause-greater
returns-then-same_var-clause-greater c = λ h.
    side_greater c.args.e.now c.pairs.result.now c.p-item.result c.args.x.now c.args.v.now c.in-Is.w c.value_order.result c.pairs.ensures.pairs
    (omega (arith, c.in-len1-up.len_at_least)) c.p-item.is c.in-Is.is (sym c.same_var.ensures.value ∙ c.if-same_var.true) c.value_order.ensures.value (cc)

pub returns-then-same_var-clause-equal : goal.returns-then-same_var-clause-equal
returns-then-same_var-clause-equal c = λ h.
    side_equal c.args.e.now c.pairs.result.now c.p-item.result c.args.x.now c.args.v.now c.in-Is.w c.value_order.result c.pairs.ensures.pairs
    (omega (arith, c.in-len1-up.len_at_least)) c.p-item.is c.in-Is.is (sym c.same_var.ensures.value ∙ c.if-same_var.true) c.value_order.ensures.value (cc)
