use Rattle.std.proofs.Common.{◌≡◌, ◌≤◌, ℕ, length, drop}
use Rattle.std.specs.Prelude.{eqb}
use Rattle.std.specs.List.{position_from}
use Rattle.edit_marks.specs.EditWalk.Numbered.{found}
use Rattle.edit_marks.proofs.edit_walk.numbers.places_of.Given as goal

abbrev pub invariant-loop-at : goal.invariant-loop-at
invariant-loop-at l = record {
  within : l.at ≤ length l.keys;
  count : l.places.count ≡ length l.keys;
  known : (key : ℕ) → found l.places key ≡ position_from (λ k. eqb k key) l.at (drop l.at l.keys);
}

abbrev pub decreases-loop-at : goal.decreases-loop-at
decreases-loop-at l = l.at
