use Rattle.std.proofs.Common.{◌≡◌, ◌<◌, ℕ, length}
use Rattle.std.specs.List.Sorted.{IsNonDecreasingBy}
use Rattle.edit_unparse.specs.Tidy.Fallen.{has_place, origin_number, own_places}
use Rattle.edit_unparse.proofs.tidy.fallen.sort_places.Given as goal

abbrev pub invariant-loop-i : goal.invariant-loop-i
invariant-loop-i l = record {
  len : length l.places.items ≡ length l.initial.places.items;
  same : (edit insert offset : ℕ) → has_place edit insert offset l.places.items ≡ has_place edit insert offset l.initial.places.items;
  rise : (edit : ℕ) → edit < l.i → IsNonDecreasingBy origin_number (own_places edit l.places.items);
}
