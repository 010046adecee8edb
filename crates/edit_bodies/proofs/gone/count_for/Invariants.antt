use Rattle.std.proofs.Common.{◌<◌, ℕ, get_or}
use Rattle.edit_bodies.proofs.gone.count_for.Given as goal

abbrev pub invariant-loop-leaf : goal.invariant-loop-leaf
invariant-loop-leaf l = (k : ℕ) → k < l.leaf-index → get_or l.leaves k 0 < l.count
