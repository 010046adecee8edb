-- Where the tokens of a text begin.
use Rattle.std.specs.Prelude.{ℕ, suc, ◌≡◌, if◌then◌else◌, Bool, true, false, List, [], ◌∷◌, length, take}
use Rattle.c_lexer.specs.declared.piece.PieceKind.{PieceKind}
use Rattle.c_lexer.specs.declared.piece.PieceKind.TheVariants.{Word, Blank, Comment, Line}
use Rattle.c_lexer.specs.Pieces.{TextPiece, text_of}
use Rattle.c_lexer.specs.Lexes.{Lexes}
use Rattle.c_places.specs.declared.places.TextPlaces.{TextPlaces}

abbrev pub is_token : PieceKind → Bool
is_token (Word kind id) = true
is_token Blank = false
is_token Comment = false
is_token Line = false

-- where the piece with this number begins
abbrev pub piece_start : List TextPiece → ℕ → ℕ
piece_start pieces number = length (text_of (take number pieces))

-- where those of the last pieces begin that are tokens; these pieces are numbered from a number on
abbrev pub starts_from : List TextPiece → ℕ → List TextPiece → List ℕ
starts_from pieces number [] = []
starts_from pieces number (p ∷ rest) =
    if is_token p.kind then piece_start pieces number ∷ starts_from pieces (suc number) rest else starts_from pieces (suc number) rest

-- where the tokens begin, in order
abbrev pub token_starts : List TextPiece → List ℕ
token_starts pieces = starts_from pieces 0 pieces

-- the tokens of the text begin there
abbrev pub ArePlaces : List ℕ → TextPlaces → Type 0
ArePlaces text places = (pieces : List TextPiece) × (Lexes text pieces × (places ≡ record { tokens = token_starts pieces }))
