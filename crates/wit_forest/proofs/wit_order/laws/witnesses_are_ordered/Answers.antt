use Rattle.wit_forest.proofs.WitOrder.OrderLaws.{witness_order_total}
use Rattle.wit_forest.proofs.wit_order.laws.witnesses_are_ordered.Goals as goal

pub returns : goal.returns
returns c = witness_order_total
