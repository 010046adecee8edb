-- The tokens of a text: the text of each, the blanks that begin its line, and how the line ends.
use Rattle.std.specs.Prelude.{ℕ, Bool, ◌≤◌, ◌+◌, List, [], ◌∷◌, ◌++◌, length, drop, take, slice_range}
use Rattle.std.specs.List.{prefix_len}
use Rattle.c_lexer.specs.declared.piece.PieceKind.{PieceKind}
use Rattle.c_lexer.specs.declared.piece.PieceKind.TheVariants.{Word, Blank, Comment, Line}
use Rattle.c_lexer.specs.Pieces.{TextPiece, text_of}
use Rattle.edit_marks.specs.Inserts.{is_blank, indent_at, returns_at}
use Rattle.edit_marks.specs.declared.file_tokens.FileToken.{FileToken}
use Rattle.edit_marks.specs.declared.file_tokens.TokenPlace.{TokenPlace}

-- a piece with the blanks that begin its line, and whether a carriage return ends it, if it is a token
abbrev pub token_of : PieceKind → List ℕ → List ℕ → Bool → List FileToken
token_of (Word kind id) text indent returns = record { text = text; indent = indent; returns = returns } ∷ []
token_of Blank text indent returns = []
token_of Comment text indent returns = []
token_of Line text indent returns = []

-- the tokens among pieces of which the first is at this offset in the bytes
abbrev pub tokens_from : List ℕ → ℕ → List TextPiece → List FileToken
tokens_from bytes at [] = []
tokens_from bytes at (p ∷ pieces) =
    token_of p.kind p.text (indent_at bytes at) (returns_at bytes at) ++ tokens_from bytes (at + length p.text) pieces

abbrev pub file_tokens : List TextPiece → List FileToken
file_tokens pieces = tokens_from (text_of pieces) 0 pieces

-- for internal use

-- the blanks of the line that begins here
abbrev pub blanks_at : List ℕ → ℕ → List ℕ
blanks_at bytes line = take (prefix_len is_blank (drop line bytes)) (drop line bytes)

abbrev pub token_at : List ℕ → TokenPlace → FileToken
token_at bytes p = record { text = slice_range bytes p.start p.end; indent = blanks_at bytes p.line; returns = p.returns }

-- the place of a piece, if it is a token
abbrev pub places_of : PieceKind → TokenPlace → List TokenPlace
places_of (Word kind id) p = p ∷ []
places_of Blank p = []
places_of Comment p = []
places_of Line p = []

abbrev pub IsWithin : List ℕ → TokenPlace → Type 0
IsWithin bytes p = (p.start ≤ p.end) × ((p.end ≤ length bytes) × (p.line ≤ length bytes))
