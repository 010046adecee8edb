use Rattle.std.proofs.Common.{◌∙◌, sym, arith}
use Rattle.env_sets.proofs.LoneLemmas.{lone_meaning, lone_vars}
use Rattle.env_sets.proofs.lone.lone_bound.Goals as goal

pub returns-then-same_var-clause-meaning : goal.returns-then-same_var-clause-meaning
returns-then-same_var-clause-meaning c = λ env.
    lone_meaning c.args.e.now c.pairs.result.now c.pair-item.result c.args.x.now env c.pairs.ensures.pairs
    (omega (arith, c.in-len1.len_at_least)) (omega (arith, c.in-len1.len_below)) c.pair-item.is (sym c.same_var.ensures.value ∙ c.if-same_var.true)

pub returns-then-same_var-clause-vars : goal.returns-then-same_var-clause-vars
returns-then-same_var-clause-vars c = λ t.
    lone_vars c.args.e.now c.pairs.result.now c.pair-item.result c.args.x.now t c.pairs.ensures.pairs
    (omega (arith, c.in-len1.len_at_least)) c.pair-item.is (sym c.same_var.ensures.value ∙ c.if-same_var.true)
