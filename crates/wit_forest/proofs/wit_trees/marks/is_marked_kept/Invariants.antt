use Rattle.std.proofs.Common.{◌≡◌, drop, length}
use Rattle.std.specs.List.{list_any}
use Rattle.smpl_patch.specs.Held.{is_held, kept}
use Rattle.wit_forest.specs.WitTrees.Marks.{is_marked_tree}
use Rattle.wit_forest.proofs.wit_trees.marks.is_marked_kept.Given as goal

abbrev pub invariant-loop-i : goal.invariant-loop-i
invariant-loop-i l = list_any (is_marked_tree l.tokens) (kept (is_held l.spot l.label (length l.trees)) l.i (drop l.i l.trees))
    ≡ list_any (is_marked_tree l.tokens) (kept (is_held l.spot l.label (length l.trees)) 0 l.trees)
