use Rattle.wit_forest.proofs.WitTrees.AlikeLemmas.{holds_alike, forest_alike}
use Rattle.wit_forest.proofs.wit_trees.laws.alike_environments.Goals as goal

pub returns-clause-holding : goal.returns-clause-holding
returns-clause-holding c = holds_alike

pub returns-clause-forests : goal.returns-clause-forests
returns-clause-forests c = forest_alike
