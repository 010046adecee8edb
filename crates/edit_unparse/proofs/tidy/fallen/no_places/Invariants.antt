use Rattle.std.proofs.Common.{◌≡◌, ℕ, false, length}
use Rattle.edit_unparse.specs.Tidy.Fallen.{has_place}
use Rattle.edit_unparse.proofs.tidy.fallen.no_places.Given as goal

abbrev pub invariant-loop : goal.invariant-loop
invariant-loop l = record {
  len : length l.places.items ≡ l.counter;
  none : (edit insert offset : ℕ) → has_place edit insert offset l.places.items ≡ false;
}
