use Rattle.std.proofs.Common.{◌≡◌, ◌<◌, ◌||◌, ℕ, false, not, List, drop, get_or, length, map}
use Rattle.std.specs.List.{items_where_true, list_any}
use Rattle.c_lexer.specs.Pieces.{TextPiece}
use Rattle.edit_unparse.specs.Tidy.Commas.{is_from}
use Rattle.edit_unparse.specs.Tidy.Fallen.{has_part}
use Rattle.edit_unparse.specs.Tidy.Made.{part_in, parts_in}
use Rattle.edit_unparse.proofs.tidy.fallen.pieces_that_go.Given as goal

abbrev pub invariant-loop-i : goal.invariant-loop-i
invariant-loop-i l = record {
  len : length l.flags.items ≡ l.count;
  flags : (pieces : List TextPiece) (n : ℕ) → n < l.count → (get_or l.flags.items n false
      || list_any (λ p. is_from n p.from) (items_where_true (map not (drop l.i l.stays)) (map (part_in pieces) (drop l.i l.parts))))
      ≡ has_part n (items_where_true (map not l.stays) (parts_in pieces l.parts));
}
