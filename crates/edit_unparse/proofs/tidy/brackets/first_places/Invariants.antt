use Rattle.std.proofs.Common.{◌≤◌, ◌+◌, ℕ, List, drop, get_or, length}
use Rattle.std.specs.List.{position_or_len}
use Rattle.c_lexer.specs.Pieces.{TextPiece}
use Rattle.edit_unparse.specs.Tidy.Commas.{is_from}
use Rattle.edit_unparse.specs.Tidy.Made.{parts_in}
use Rattle.edit_unparse.proofs.tidy.brackets.first_places.Given as goal

abbrev pub invariant-loop-at : goal.invariant-loop-at
invariant-loop-at l = record {
  within : l.at ≤ length l.parts;
  places : (pieces : List TextPiece) (n : ℕ)
      → get_or l.places.items n 0 ≤ l.at + position_or_len (λ p. is_from n p.from) (drop l.at (parts_in pieces l.parts));
}

abbrev pub decreases-loop-at : goal.decreases-loop-at
decreases-loop-at l = l.at
