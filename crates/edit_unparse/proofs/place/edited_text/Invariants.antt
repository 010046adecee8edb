use Rattle.std.proofs.Common.{◌≡◌, ◌≤◌, ◌-◌, length}
use Rattle.c_lexer.specs.Pieces.{most_bytes}
use Rattle.edit_unparse.proofs.LoopLemmas.{IsAt}
use Rattle.edit_unparse.proofs.place.edited_text.Given as goal

abbrev pub invariant-loop-place : goal.invariant-loop-place
invariant-loop-place l = record {
  all : l.count ≡ length l.lexed;
  small : l.count ≤ most_bytes;
  here : IsAt l.lexed l.all l.fn.next l.marks l.at l.place l.draft;
}

abbrev pub decreases-loop-place : goal.decreases-loop-place
decreases-loop-place l = length l.lexed - l.place.piece
