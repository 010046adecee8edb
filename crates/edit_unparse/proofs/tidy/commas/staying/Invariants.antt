use Rattle.std.proofs.Common.{◌≡◌, List, drop, fold, length}
use Rattle.std.specs.List.{items_where_true}
use Rattle.edit_unparse.specs.Output.{Part}
use Rattle.edit_unparse.specs.Tidy.Fallen.{LooksAs}
use Rattle.edit_unparse.specs.Tidy.Text.{with_commas}
use Rattle.edit_unparse.specs.Tidy.Plans.{placement_in}
use Rattle.edit_unparse.specs.Tidy.Made.{parts_in}
use Rattle.edit_unparse.proofs.tidy.commas.staying.Given as goal

abbrev pub invariant-loop-list : goal.invariant-loop-list
invariant-loop-list l = record {
  len : length l.stays.items ≡ length l.parts;
  stays : (ps : List Part) → LooksAs l.plan.pieces.items ps (parts_in l.lexed l.parts)
      → fold (with_commas (placement_in l.edits l.plan) l.plan.pieces.items) (items_where_true l.stays.items ps) (drop l.list-index l.lists)
      ≡ fold (with_commas (placement_in l.edits l.plan) l.plan.pieces.items) ps l.lists;
}
