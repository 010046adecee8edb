use Rattle.wit_forest.proofs.StateLemmas.{covered_with, added_with}
use Rattle.wit_forest.proofs.states.States.add.Goals as goal

pub returns-clause-covered : goal.returns-clause-covered
returns-clause-covered c = covered_with _ _ _ c.args.env.now c.in_ok-put.ensures.states c.in_ok-env.ensures.same

pub returns-clause-added : goal.returns-clause-added
returns-clause-added c = added_with _ _ _ c.args.env.now c.in_ok-put.ensures.states c.in_ok-env.ensures.same
