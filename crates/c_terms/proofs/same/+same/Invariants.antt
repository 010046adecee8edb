use Rattle.std.proofs.Common.{◌≡◌, length, drop, map}
use Rattle.c_terms.specs.Same.{same_tree, all_pass}
use Rattle.c_terms.proofs.same.+same.Given as goal

abbrev pub invariant-same_lists-loop-i : goal.invariant-same_lists-loop-i
invariant-same_lists-loop-i l = record {
  even : length l.xs ≡ length l.ys;
  rest : all_pass (map same_tree (drop l.i l.xs)) (drop l.i l.ys) ≡ all_pass (map same_tree l.xs) l.ys;
}
