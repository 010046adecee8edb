use Rattle.std.proofs.Common.{◌≡◌, ◌<◌, ◌||◌, ℕ, not, drop, length, map}
use Rattle.std.specs.List.{items_where_true, list_any}
use Rattle.edit_unparse.specs.Tidy.Fallen.{has_place, is_origin}
use Rattle.edit_unparse.specs.Tidy.Made.{origin_in}
use Rattle.edit_unparse.proofs.tidy.fallen.found_places.Given as goal

abbrev pub invariant-loop-i : goal.invariant-loop-i
invariant-loop-i l = record {
  len : length l.places.items ≡ l.count;
  places : (edit insert offset : ℕ) → edit < l.count → (has_place edit insert offset l.places.items
      || list_any (is_origin edit insert offset) (items_where_true (map not (drop l.i l.stays)) (map origin_in (drop l.i l.parts))))
      ≡ list_any (is_origin edit insert offset) (items_where_true (map not l.stays) (map origin_in l.parts));
}
