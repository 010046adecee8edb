use Rattle.std.proofs.Common.{◌≡◌, ◌≤◌, ◌-◌, ◌+◌, List, drop, length}
use Rattle.c_lexer.specs.Pieces.{TextPiece}
use Rattle.edit_unparse.specs.Tidy.Clearing.{place_of}
use Rattle.edit_unparse.specs.Tidy.Made.{parts_in}
use Rattle.edit_unparse.proofs.tidy.brackets.find.Given as goal

abbrev pub invariant-loop-at : goal.invariant-loop-at
invariant-loop-at l = record {
  after : l.from ≤ l.at;
  within : l.from ≤ length l.parts → l.at ≤ length l.parts;
  value : (pieces : List TextPiece) → l.from + place_of l.number (drop l.from l.stays) (drop l.from (parts_in pieces l.parts))
      ≡ l.at + place_of l.number (drop l.at l.stays) (drop l.at (parts_in pieces l.parts));
}

abbrev pub decreases-loop-at : goal.decreases-loop-at
decreases-loop-at l = length l.parts - l.at
