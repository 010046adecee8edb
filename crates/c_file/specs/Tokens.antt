-- The tokens of an item.
use Rattle.std.specs.Prelude.{ℕ, List, [], map, Option, None, Some, slice_get, slice_range}
use Rattle.c_terms.specs.declared.token.Token.{Token}
use Rattle.c_terms.specs.declared.token.TokenKind.{TokenKind}
use Rattle.c_terms.specs.declared.token.TokenKind.TheVariants.{Stray}
use Rattle.c_lexer.specs.declared.piece.PieceKind.{PieceKind}
use Rattle.c_lexer.specs.declared.piece.PieceKind.TheVariants.{Word}
use Rattle.c_lexer.specs.Pieces.{TextPiece}
use Rattle.cpp_lines.specs.declared.span.ItemSpan.{ItemSpan}
use Rattle.cpp_lines.specs.Visible.{VisibleTokens}

-- the kind and the id of a piece that is a token, as every shown piece is
abbrev pub word_of : PieceKind → TokenKind × ℕ
word_of (Word kind id) = (kind, id)
word_of _ = (Stray, 0)

abbrev pub token_of : Option TextPiece → Token
token_of None = record { kind = Stray; text = []; id = 0 }
token_of (Some p) = record { kind = (word_of p.kind).0; text = p.text; id = (word_of p.kind).1 }

-- the token that the piece of this number is
abbrev pub token_at : List TextPiece → ℕ → Token
token_at pieces n = token_of (slice_get pieces n)

-- the tokens of an item: those of its shown pieces
abbrev pub tokens_in : VisibleTokens → ItemSpan → List Token
tokens_in v span = map (token_at v.pieces) (slice_range v.shown span.first span.last)
