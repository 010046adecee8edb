use Rattle.std.proofs.Common.{◌≡◌}
use Rattle.c_types.specs.TreeKeys.{level_count}
use Rattle.c_types.proofs.KeyLemmas.{count_from}
use Rattle.c_types.proofs.tree_key.+level_count.Given as goal

abbrev pub invariant-loop-child : goal.invariant-loop-child
invariant-loop-child l = count_from l.most l.child-items l.child-index ≡ level_count l.tree
