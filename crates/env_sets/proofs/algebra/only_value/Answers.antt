use Rattle.std.proofs.Common.{◌∙◌, sym, arith}
use Rattle.env_sets.proofs.MeetLemmas.{one_pair}
use Rattle.env_sets.proofs.algebra.only_value.Goals as goal

pub returns-then-same_var : goal.returns-then-same_var
returns-then-same_var c = λ env.
    one_pair c.args.e.now c.pairs.result.now c.pair-item.result c.in-Is.v c.args.x.now env c.pairs.ensures.pairs
    (omega (arith, c.in-len1.len_at_least)) (omega (arith, c.in-len1.len_below)) c.pair-item.is c.in-Is.is (sym c.same_var.ensures.value ∙ c.if-same_var.true)
