use Rattle.wit_forest.specs.WitTrees.Graphs.{world_of}
use Rattle.wit_forest.proofs.WitTrees.RiseLemmas.{forest_rises}
use Rattle.wit_forest.proofs.wit_trees.laws.forests_rise.Goals as goal

pub returns : goal.returns
returns c = λ decls tokens g f s env. forest_rises (world_of decls tokens g) f s env
