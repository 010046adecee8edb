use Rattle.std.proofs.Common.{◌≡◌, length, drop, min}
use Rattle.std.specs.Cmp.Lexicographic.{slice_cmp}
use Rattle.c_terms.specs.Order.{tree_order}
use Rattle.c_terms.proofs.order.+order.Given as goal

abbrev pub invariant-order_of_lists-loop-i : goal.invariant-order_of_lists-loop-i
invariant-order_of_lists-loop-i l = record {
  least : l.common ≡ min (length l.xs) (length l.ys);
  rest : slice_cmp tree_order (drop l.i l.xs) (drop l.i l.ys) ≡ slice_cmp tree_order l.xs l.ys;
}
