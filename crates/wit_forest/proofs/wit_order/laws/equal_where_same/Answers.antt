use Rattle.wit_forest.proofs.WitOrder.SameLaws.{is_eq-witness_order}
use Rattle.wit_forest.proofs.wit_order.laws.equal_where_same.Goals as goal

pub returns : goal.returns
returns c = is_eq-witness_order
