use Rattle.std.proofs.Common.{◌≡◌, drop, map}
use Rattle.c_terms.specs.Trees.{leaves, join}
use Rattle.c_terms.proofs.place.+first_leaf.Given as goal

abbrev pub invariant-loop-child : goal.invariant-loop-child
invariant-loop-child l = join (map leaves (drop l.child-index l.child-items)) ≡ leaves l.tree
