-- Runs of pieces of the old text that no edit touches.
use Rattle.std.specs.Prelude.{ℕ, ◌≡◌, ◌<◌, ◌≤◌, ◌+◌, ◌-◌, ◌==◌, Bool, true, false, List, [], ◌∷◌, ◌++◌, take, drop, filter, length, slice_get, Some}
use Rattle.c_lexer.specs.declared.piece.PieceKind.{PieceKind}
use Rattle.c_lexer.specs.declared.piece.PieceKind.TheVariants.{Word, Blank, Comment, Line}
use Rattle.c_lexer.specs.Pieces.{TextPiece}
use Rattle.edit_marks.specs.declared.edit_conflict.edit.Edit.{Edit}
use Rattle.edit_marks.specs.declared.edit_conflict.mark.Mark.{Mark}
use Rattle.edit_marks.specs.EditConflict.Marks.{is_at, marks_from}
use Rattle.edit_unparse.specs.declared.draft.Draft.{Draft}
use Rattle.edit_unparse.specs.declared.draft.Place.{Place}
use Rattle.edit_unparse.specs.Output.{Part, old_part, placed, is_word}
use Rattle.edit_unparse.specs.Written.{left}

-- the pieces from one number up to another
abbrev pub run_of : List TextPiece → ℕ → ℕ → List TextPiece
run_of pieces from to = take (to - from) (drop from pieces)

-- consecutive old pieces, of which the first has this number
abbrev pub old_parts : ℕ → List TextPiece → List Part
old_parts number [] = []
old_parts number (p ∷ pieces) = old_part number p ∷ old_parts (number + 1) pieces

-- the piece is the next token, and its number is that at which to stop
abbrev pub is_stop : PieceKind → ℕ → ℕ → Bool
is_stop (Word kind id) token stop = token == stop
is_stop Blank token stop = false
is_stop Comment token stop = false
is_stop Line token stop = false

-- the number of the token of the first act, or one that no token has
abbrev pub next_token : List Mark → ℕ
next_token [] = 4294967295
next_token (m ∷ marks) = m.token

-- no edit touches the tokens from one number up to another
abbrev pub Untouched : List Edit → ℕ → ℕ → Type 0
Untouched edits from to = (token : ℕ) → from ≤ token → token < to → filter (is_at token) (marks_from 0 edits) ≡ []

-- the parts at these pieces are the pieces themselves
pub record Passes (pieces : List TextPiece) (from : Place) (stop piece token : ℕ) : Type 0 where
  pub on : from.piece ≤ piece
  pub within : piece ≤ length pieces
  pub few : token ≤ piece
  pub up : from.token ≤ token
  pub below : token ≤ stop
  pub same : (edits : List Edit) → Untouched edits from.token stop
      → placed edits from.token from.piece (drop from.piece pieces) ≡ old_parts from.piece (run_of pieces from.piece piece)
      ++ placed edits token piece (drop piece pieces)

-- and a token comes after them, or nothing
pub record IsRun (pieces : List TextPiece) (from : Place) (stop : ℕ) (to : Place) : Type 0 where
  pub passes : Passes pieces from stop to.piece to.token
  pub word : (p : TextPiece) → slice_get pieces to.piece ≡ Some p → is_word p.kind ≡ true

-- the drafts are equal, except perhaps for their ids
pub record SameButIds (old new : Draft) : Type 0 where
  pub bytes : new.bytes.items ≡ old.bytes.items
  pub next : new.next ≡ old.next
  pub left : left new ≡ left old
