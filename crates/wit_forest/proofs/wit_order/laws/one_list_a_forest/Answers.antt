use Rattle.wit_forest.proofs.WitOrder.ForestLaws.{one_list}
use Rattle.wit_forest.proofs.WitOrder.SizeLemmas.{forest_size-along}
use Rattle.wit_forest.proofs.wit_order.laws.one_list_a_forest.Goals as goal

pub returns-clause-same : goal.returns-clause-same
returns-clause-same c = one_list

pub returns-clause-size : goal.returns-clause-size
returns-clause-size c = forest_size-along
