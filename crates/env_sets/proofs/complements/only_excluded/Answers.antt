use Rattle.std.proofs.Common.{◌∙◌, sym, ap, arith}
use Rattle.env_sets.specs.Bounds.{fits}
use Rattle.env_sets.proofs.PartLemmas.{one_bound}
use Rattle.env_sets.proofs.complements.only_excluded.Goals as goal

pub returns-then-same_var : goal.returns-then-same_var
returns-then-same_var c = λ env.
    one_bound c.args.e.now c.pairs.result.now c.pair-item.result c.args.x.now env c.pairs.ensures.pairs
    (omega (arith, c.in-len1.len_at_least)) (omega (arith, c.in-len1.len_below)) c.pair-item.is (sym c.same_var.ensures.value ∙ c.if-same_var.true)
    ∙ ap (fits (env c.args.x.now)) c.in-Not.is
