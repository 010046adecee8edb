use Rattle.std.proofs.Common.{◌≡◌, max, drop, map}
use Rattle.c_terms.specs.Trees.{greatest, width}
use Rattle.c_terms.proofs.place.+width.Given as goal

abbrev pub invariant-loop-child : goal.invariant-loop-child
invariant-loop-child l = max l.most (greatest (map width (drop l.child-index l.child-items))) ≡ width l.tree
