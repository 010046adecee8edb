-- The text that results from applying edits to a text: its pieces in order without the removed tokens, each insert's pieces
-- directly before or after its token's place, and a space where a token and a piece that was not its neighbour would run
-- together.
use Rattle.std.specs.Prelude.{ℕ, ◌+◌, ◌==◌, ◌&&◌, Bool, true, false, not, List, [], ◌∷◌, ◌++◌, map, Option, Some, None, if◌then◌else◌}
use Rattle.std.specs.List.{list_any}
use Rattle.c_lexer.specs.declared.piece.PieceKind.{PieceKind}
use Rattle.c_lexer.specs.declared.piece.PieceKind.TheVariants.{Word, Blank, Comment, Line}
use Rattle.c_lexer.specs.Pieces.{TextPiece}
use Rattle.c_lexer.specs.Lexes.{id_after}
use Rattle.c_lexer.specs.Ids.{without_id}
use Rattle.edit_marks.specs.declared.edit_conflict.edit.Side.{Side}
use Rattle.edit_marks.specs.declared.edit_conflict.edit.Side.TheVariants.{Before, After}
use Rattle.edit_marks.specs.declared.edit_conflict.edit.Insert.{Insert}
use Rattle.edit_marks.specs.declared.edit_conflict.edit.Edit.{Edit}
use Rattle.edit_marks.specs.EditConflict.Same.{side_number}
use Rattle.edit_marks.specs.EditConflict.Clashes.{removes}
use Rattle.c_show.specs.Joint.{runs_together}
use Rattle.edit_unparse.specs.Cutting.{cut}

-- A piece of the new text, with its number among the old pieces if it is one of them.
pub record Part : Type 0 where
  pub from : Option ℕ
  pub piece : TextPiece

-- the texts of the inserts at a token, on one side
abbrev pub texts_in : Side → ℕ → List Insert → List (List ℕ)
texts_in side token [] = []
texts_in side token (i ∷ inserts) = if i.token == token && side_number i.side == side_number side then i.text
    ∷ texts_in side token inserts else texts_in side token inserts

abbrev pub inserted : Side → ℕ → List Edit → List (List ℕ)
inserted side token [] = []
inserted side token (e ∷ edits) = texts_in side token e.inserts ++ inserted side token edits

abbrev pub is_removed : ℕ → List Edit → Bool
is_removed token edits = list_any (removes token) edits

-- the pieces of inserted texts
abbrev pub new_part : TextPiece → Part
new_part p = record { from = None; piece = without_id p }

abbrev pub new_parts : List ℕ → List Part
new_parts text = map new_part (cut text)

abbrev pub added : List (List ℕ) → List Part
added [] = []
added (text ∷ texts) = new_parts text ++ added texts

abbrev pub old_part : ℕ → TextPiece → Part
old_part number p = record { from = Some number; piece = p }

abbrev pub kept : Bool → ℕ → TextPiece → List Part
kept true number p = []
kept false number p = old_part number p ∷ []

-- the parts at the place of a token: the inserts before it, the token unless it is removed, the inserts after it
abbrev pub token_parts : List Edit → ℕ → ℕ → TextPiece → List Part
token_parts edits token number p = added (inserted Before token edits) ++ (kept (is_removed token edits) number p ++ added (inserted After token edits))

-- the parts at the place of a piece of this kind
abbrev pub parts_at : PieceKind → List Edit → ℕ → ℕ → TextPiece → List Part
parts_at (Word kind id) edits token number p = token_parts edits token number p
parts_at Blank edits token number p = old_part number p ∷ []
parts_at Comment edits token number p = old_part number p ∷ []
parts_at Line edits token number p = old_part number p ∷ []

-- the new text's pieces without spaces, given the numbers of the next token and of the next piece
abbrev pub placed : List Edit → ℕ → ℕ → List TextPiece → List Part
placed edits token number [] = []
placed edits token number (p ∷ pieces) = parts_at p.kind edits token number p ++ placed edits (id_after p.kind token) (number + 1) pieces

abbrev pub is_word : PieceKind → Bool
is_word (Word kind id) = true
is_word Blank = false
is_word Comment = false
is_word Line = false

-- What is to the left of a place.
pub record Left : Type 0 where
  pub from : Option ℕ
  pub is_word : Bool
  pub text : List ℕ

abbrev pub left_of : Part → Left
left_of p = record { from = p.from; is_word = is_word p.piece.kind; text = p.piece.text }

-- they were neighbours in the old text
abbrev pub were_beside : Option ℕ → Option ℕ → Bool
were_beside (Some a) (Some b) = b == a + 1
were_beside (Some a) None = false
were_beside None from = false

abbrev pub needs_space : Left → Option ℕ → List ℕ → Bool
needs_space left from text = left.is_word && (not (were_beside left.from from) && runs_together left.text text)

abbrev pub space : TextPiece
space = record { kind = Blank; text = 32 ∷ [] }

-- what separates a piece from what is to its left
abbrev pub gap : Option Left → Option ℕ → List ℕ → List TextPiece
gap None from text = []
gap (Some left) from text = if needs_space left from text then space ∷ [] else []

-- a new token gets the next id
abbrev pub with_next : Option ℕ → ℕ → PieceKind → PieceKind
with_next (Some number) next kind = kind
with_next None next (Word kind id) = Word kind next
with_next None next Blank = Blank
with_next None next Comment = Comment
with_next None next Line = Line

abbrev pub next_after : Option ℕ → ℕ → PieceKind → ℕ
next_after (Some number) next kind = next
next_after None next kind = id_after kind next

-- the parts with spaces and ids, given what is to the left
abbrev pub spaced : Option Left → ℕ → List Part → List TextPiece
spaced left next [] = []
spaced left next (p ∷ parts) =
    gap left p.from p.piece.text ++ (let q : TextPiece = record { kind = with_next p.from next p.piece.kind; text = p.piece.text } in q)
    ∷ spaced (Some (left_of p)) (next_after p.from next p.piece.kind) parts

-- the pieces of the new text; added tokens have the ids from next on
abbrev pub output_of : List TextPiece → List Edit → ℕ → List TextPiece
output_of pieces edits next = spaced None next (placed edits 0 0 pieces)
