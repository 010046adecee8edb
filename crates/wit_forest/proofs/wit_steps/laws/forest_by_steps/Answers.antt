use Rattle.wit_forest.proofs.WitSteps.KidLemmas.{kid_step}
use Rattle.wit_forest.proofs.wit_steps.laws.forest_by_steps.Goals as goal

pub returns : goal.returns
returns c = kid_step
