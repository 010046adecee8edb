-- How examples of tidied texts are written: inserts and braces as single parts.
use Rattle.std.specs.Prelude.{ℕ, zero, suc, ◌+◌, ◌==◌, Bool, false, List, [], ◌∷◌, ◌++◌, map, None, if◌then◌else◌}
use Rattle.c_terms.specs.declared.token.TokenKind.TheVariants.{Punct}
use Rattle.c_lexer.specs.declared.piece.PieceKind.{PieceKind}
use Rattle.c_lexer.specs.declared.piece.PieceKind.TheVariants.{Word, Blank, Comment}
use Rattle.c_lexer.specs.Pieces.{TextPiece, text_of}
use Rattle.edit_marks.specs.declared.edit_conflict.edit.Side.{Side}
use Rattle.edit_marks.specs.declared.edit_conflict.edit.Insert.{Insert}
use Rattle.edit_marks.specs.declared.edit_conflict.edit.Edit.{Edit}
use Rattle.edit_unparse.specs.declared.tidy.parts.Brace.{Brace}
use Rattle.edit_unparse.specs.Output.{Part, spaced}
use Rattle.edit_unparse.specs.Tidy.Text.{Frame, tidied_parts}

abbrev pub piece : PieceKind → List ℕ → TextPiece
piece kind text = record { kind = kind; text = text }

abbrev pub insert : ℕ → Side → List ℕ → Insert
insert token side text = record { token = token; side = side; many = false; text = text }

-- so many numbers from one on
abbrev pub from : ℕ → ℕ → List ℕ
from n zero = []
from n (suc m) = n ∷ from (n + 1) m

abbrev pub edit : List ℕ → List Insert → Edit
edit removed inserts = record { removed = removed; inserts = inserts }

abbrev pub brace : ℕ → Bool → ℕ → List ℕ → Brace
brace token after inserts text = record { token = token; after = after; inserts = inserts; text = text }

abbrev pub no_frame : Frame
no_frame = record { gone = []; depths = []; lists = []; braces = [] }

-- each text as one part, before and behind which no space is needed
abbrev pub as_one : List (List ℕ) → List Part
as_one [] = []
as_one (text ∷ texts) = record { from = None; piece = record { kind = Comment; text = text } } ∷ as_one texts

-- the tidied text, with such parts for inserts and braces
abbrev pub sketch : List TextPiece → List Edit → Frame → List ℕ
sketch pieces edits frame = text_of (spaced None 99 (tidied_parts as_one pieces edits frame))

-- each byte as one part: a blank, or a token
abbrev pub byte_part : ℕ → Part
byte_part b = record { from = None; piece = record { kind = if b == 32 then Blank else Word Punct 0; text = b ∷ [] } }

abbrev pub as_bytes : List (List ℕ) → List Part
as_bytes [] = []
as_bytes (text ∷ texts) = map byte_part text ++ as_bytes texts
