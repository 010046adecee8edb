use Rattle.std.proofs.Common.{◌≡◌, length, drop}
use Rattle.smpl_patch.proofs.equal.+equal.Given as goal

abbrev pub invariant-are_equal_trees-loop-i : goal.invariant-are_equal_trees-loop-i
invariant-are_equal_trees-loop-i l = record { even : length l.xs ≡ length l.ys; rest : drop l.i l.xs ≡ drop l.i l.ys → l.xs ≡ l.ys }
