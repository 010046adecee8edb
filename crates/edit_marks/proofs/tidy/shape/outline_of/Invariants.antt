use Rattle.std.proofs.Common.{◌≡◌, ◌++◌, drop, length}
use Rattle.edit_marks.specs.Tidy.Outlines.{gather_items, own_bodies, own_lists, own_statements, tokens_of_items}
use Rattle.edit_marks.proofs.tidy.shape.outline_of.Given as goal

abbrev pub invariant-loop-item : goal.invariant-loop-item
invariant-loop-item l = record {
  leaves : l.made.leaves.items ++ tokens_of_items l.ids l.items (drop l.item-index l.touched) ≡ tokens_of_items l.ids l.items l.touched;
  bodies : l.made.bodies.items ++ gather_items l.ids (own_bodies l.ids) l.items (length l.made.leaves.items) (drop l.item-index l.touched)
      ≡ gather_items l.ids (own_bodies l.ids) l.items 0 l.touched;
  statements : l.made.statements.items ++ gather_items l.ids (own_statements l.ids) l.items (length l.made.leaves.items) (drop l.item-index l.touched)
      ≡ gather_items l.ids (own_statements l.ids) l.items 0 l.touched;
  lists : l.made.lists.items ++ gather_items l.ids (own_lists l.ids) l.items (length l.made.leaves.items) (drop l.item-index l.touched)
      ≡ gather_items l.ids (own_lists l.ids) l.items 0 l.touched;
}
