use Rattle.std.proofs.Common.{◌≡◌, drop, map}
use Rattle.std.specs.List.{list_any}
use Rattle.c_terms.specs.Trees.{join, leaves}
use Rattle.smpl_patch.specs.Patterns.{is_own, stands_in}
use Rattle.smpl_patch.proofs.reading.+stands_in.Given as goal

abbrev pub invariant-loop-child : goal.invariant-loop-child
invariant-loop-child l = list_any (is_own l.decls l.tokens l.x) (join (map leaves (drop l.child-index l.child-items))) ≡ stands_in l.decls l.tokens l.x l.tree
