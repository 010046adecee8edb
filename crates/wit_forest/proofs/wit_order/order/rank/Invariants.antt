use Rattle.std.proofs.Common.{◌≡◌, ◌+◌, drop}
use Rattle.wit_forest.specs.WitOrder.Order.{rank}
use Rattle.wit_forest.proofs.wit_order.order.rank.Given as goal

abbrev pub invariant-loop-i : goal.invariant-loop-i
invariant-loop-i l = rank l.decls l.x ≡ l.i + rank (drop l.i l.decls) l.x
