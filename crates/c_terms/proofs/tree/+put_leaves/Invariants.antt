use Rattle.std.proofs.Common.{◌≡◌, ◌++◌, drop, map}
use Rattle.c_terms.specs.Trees.{leaves, join}
use Rattle.c_terms.proofs.tree.+put_leaves.Given as goal

abbrev pub invariant-loop-child : goal.invariant-loop-child
invariant-loop-child l = l.found ++ join (map leaves (drop l.child-index l.child-items)) ≡ l.initial.found ++ leaves l.tree
