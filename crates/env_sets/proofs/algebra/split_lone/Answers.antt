use Rattle.std.proofs.Common.{◌≡◌, ◌||◌, ap, sym, ◌∙◌, arith, take}
use Rattle.std.proofs.lemmas.List.{take_all}
use Rattle.env_sets.specs.Sets.{set_denotes}
use Rattle.env_sets.proofs.algebra.split_lone.Goals as goal

pub returns-clause-meaning : goal.returns-clause-meaning
returns-clause-meaning c = λ env.
    let all_read : take c.loop-e.e-index c.args.b.now ≡ c.args.b.now = take_all c.loop-e.e-index c.args.b.now (omega (arith, c.loop-e-test.false)) in
    ap (λ es. set_denotes es env) (sym all_read)
    ∙ sym (c.loop-e.invariant.meaning env)
    ∙ (λ i. sym (c.in_ok-distinct.ensures.meaning (env c.args.x.now)) i || set_denotes (sym c.of.ensures.entries i) env)
