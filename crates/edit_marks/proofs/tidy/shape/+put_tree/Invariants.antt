use Rattle.std.proofs.Common.{◌≡◌, ◌++◌, drop, length}
use Rattle.c_terms.specs.Trees.{levels}
use Rattle.edit_marks.specs.Tidy.Outlines.{bounds, gather_in, own_bodies, own_lists, own_statements, tokens_in}
use Rattle.edit_marks.proofs.tidy.shape.+put_tree.Given as goal

abbrev pub invariant-loop-i : goal.invariant-loop-i
invariant-loop-i l = record {
  leaves : l.made.leaves.items ++ tokens_in l.ids (drop l.i l.child-items) ≡ l.initial.made.leaves.items ++ tokens_in l.ids l.child-items;
  bodies : l.made.bodies.items ++ gather_in l.ids (own_bodies l.ids l.item) l.initial.path.items l.i (length l.made.leaves.items) (drop l.i l.child-items)
      ≡ l.initial.made.bodies.items ++ gather_in l.ids (own_bodies l.ids l.item) l.initial.path.items 0 (length l.initial.made.leaves.items) l.child-items;
  statements : l.made.statements.items
      ++ gather_in l.ids (own_statements l.ids l.item) l.initial.path.items l.i (length l.made.leaves.items) (drop l.i l.child-items)
      ≡ l.initial.made.statements.items
      ++ gather_in l.ids (own_statements l.ids l.item) l.initial.path.items 0 (length l.initial.made.leaves.items) l.child-items;
  lists : l.made.lists.items ++ gather_in l.ids (own_lists l.ids l.item) l.initial.path.items l.i (length l.made.leaves.items) (drop l.i l.child-items)
      ≡ l.initial.made.lists.items ++ gather_in l.ids (own_lists l.ids l.item) l.initial.path.items 0 (length l.initial.made.leaves.items) l.child-items;
  bounds_are : l.bounds.items ++ bounds l.ids (length l.made.leaves.items) (drop l.i l.child-items)
      ≡ bounds l.ids (length l.initial.made.leaves.items) l.child-items;
  path : l.path.items ≡ l.initial.path.items;
}

abbrev pub decreases-put_tree : goal.decreases-put_tree
decreases-put_tree l = levels l.tree.now
