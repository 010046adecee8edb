use Rattle.wit_forest.proofs.WitSteps.ChoiceLemmas.{all_chosen}
use Rattle.wit_forest.proofs.wit_steps.laws.choices_are_all.Goals as goal

pub returns : goal.returns
returns c = all_chosen
