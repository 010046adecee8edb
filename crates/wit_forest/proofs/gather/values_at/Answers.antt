use Rattle.std.proofs.Common.{ap, ◌∙◌, subst}
use Rattle.smpl_terms.specs.Environments.{total}
use Rattle.wit_forest.specs.WitSteps.Choices.{chosen, AllRise}
use Rattle.wit_forest.proofs.ReadyLemmas.{values_hold}
use Rattle.wit_forest.proofs.gather.values_at.Goals as goal

pub returns-clause-values : goal.returns-clause-values
returns-clause-values c = λ v.
    let env = total c.args.env.now in
    let set = c.at.ensures.set in
    c.different.ensures.values v ∙ c.in_ok-values.ensures.values v ∙ ap (λ entries. chosen c.args.x.now env entries v) set
    ∙ values_hold c.args.g.now c.args.f.now c.args.sets.now c.requires.ready c.args.part c.args.part c.args.s c.requires.range c.args.x.now c.requires.bound
    (subst AllRise set c.in_ok-values.ensures.rise) env v
