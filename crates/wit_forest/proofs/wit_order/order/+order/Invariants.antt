use Rattle.std.proofs.Common.{◌≡◌, length, drop, min}
use Rattle.std.specs.Cmp.Lexicographic.{slice_cmp}
use Rattle.wit_forest.specs.WitOrder.Order.{witness_order}
use Rattle.wit_forest.proofs.wit_order.order.+order.Given as goal

abbrev pub invariant-order_of_forests-loop-i : goal.invariant-order_of_forests-loop-i
invariant-order_of_forests-loop-i l = record {
  least : l.common ≡ min (length l.xs) (length l.ys);
  rest : slice_cmp (witness_order l.decls) (drop l.i l.xs) (drop l.i l.ys) ≡ slice_cmp (witness_order l.decls) l.xs l.ys;
}
