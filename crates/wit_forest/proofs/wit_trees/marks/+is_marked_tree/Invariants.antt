use Rattle.std.proofs.Common.{◌≡◌, drop, map}
use Rattle.std.specs.Prelude.{slice_get}
use Rattle.std.specs.List.{list_any}
use Rattle.c_terms.specs.Trees.{join, leaves}
use Rattle.wit_forest.specs.WitTrees.Marks.{is_marked, is_marked_tree}
use Rattle.wit_forest.proofs.wit_trees.marks.+is_marked_tree.Given as goal

abbrev pub invariant-loop-child : goal.invariant-loop-child
invariant-loop-child l = list_any (λ a. is_marked (slice_get l.tokens a.id))
    (join (map leaves (drop l.child-index l.child-items))) ≡ is_marked_tree l.tokens l.tree
