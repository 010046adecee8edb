-- Items whose trees consist of tokens of C that don't follow a Stray.
use Rattle.std.specs.Prelude.{◌≡◌, ◌⊎◌, Bool, false, List, [], ◌∷◌, All}
use Rattle.c_terms.specs.declared.token.Token.{Token}
use Rattle.c_terms.specs.Trees.{leaves}
use Rattle.c_lexer.specs.declared.piece.PieceKind.TheVariants.{Word}
use Rattle.c_lexer.specs.Pieces.{TextPiece}
use Rattle.cpp_lines.specs.declared.reading.Item.{Item}
use Rattle.cpp_lines.specs.declared.reading.Item.TheVariants.{Parsed, Skipped}
use Rattle.edit_marks.specs.Plain.{AreCTokens}
use Rattle.edit_unparse.specs.Fair.{after_stray}

-- the piece of this token
abbrev pub piece_of : Token → TextPiece
piece_of t = record { kind = Word t.kind t.id; text = t.text }

-- The token is one of these pieces, and the nearest earlier piece that is no blank is no Stray. `after`: whether the piece
-- before all of them is a Stray.
abbrev pub StandsApart : Bool → List TextPiece → Token → Type 0
StandsApart after [] t = ⊥
StandsApart after (p ∷ pieces) t = ((p ≡ piece_of t) × (after ≡ false)) ⊎ StandsApart (after_stray p.kind after) pieces t

-- each token of the item's tree, if it has one, is a token of C that is no Stray, is one of these pieces, and doesn't
-- follow a Stray, not even after blanks
abbrev pub IsSoundItem : List TextPiece → Item → Type 0
IsSoundItem pieces (Parsed t) = AreCTokens (leaves t) × All (StandsApart false pieces) (leaves t)
IsSoundItem pieces (Skipped span why) = Unit {0}
