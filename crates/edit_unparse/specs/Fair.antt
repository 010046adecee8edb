-- Edits whose new text is cut into the pieces that it was assembled from.
use Rattle.std.specs.Prelude.{ℕ, ◌≡◌, Bool, true, false, List, [], ◌∷◌}
use Rattle.std.specs.List.{list_all}
use Rattle.c_terms.specs.declared.token.TokenKind.{TokenKind}
use Rattle.c_terms.specs.declared.token.TokenKind.TheVariants.{Stray}
use Rattle.c_lexer.specs.declared.piece.PieceKind.{PieceKind}
use Rattle.c_lexer.specs.declared.piece.PieceKind.TheVariants.{Word, Blank, Comment, Line}
use Rattle.c_lexer.specs.Pieces.{TextPiece}
use Rattle.c_lexer.specs.Lexes.{id_after}
use Rattle.c_show.specs.PlainText.{may_come}
use Rattle.edit_marks.specs.declared.edit_conflict.edit.Side.TheVariants.{Before, After}
use Rattle.edit_marks.specs.declared.edit_conflict.edit.Edit.{Edit}
use Rattle.edit_unparse.specs.Cutting.{cut}
use Rattle.edit_unparse.specs.Output.{inserted, is_removed}

abbrev pub is_stray : TokenKind → Bool
is_stray Stray = true
is_stray kind = false

-- the text is cut into blanks and tokens, none of which is a Stray
abbrev pub is_plain_text : List ℕ → Bool
is_plain_text text = list_all (λ p. may_come p.kind) (cut text)

abbrev pub has_plain_inserts : Edit → Bool
has_plain_inserts e = list_all (λ i. is_plain_text i.text) e.inserts

-- the token is not removed, and nothing is inserted before it
abbrev pub Stands : List Edit → ℕ → Type 0
Stands edits token = (is_removed token edits ≡ false) × (inserted Before token edits ≡ [])

-- whether, after a piece, the nearest earlier piece that is not a blank is a Stray
abbrev pub after_stray : PieceKind → Bool → Bool
after_stray (Word kind id) after = is_stray kind
after_stray Blank after = after
after_stray Comment after = false
after_stray Line after = false

abbrev pub StrayStays : PieceKind → List Edit → Bool → ℕ → Type 0
StrayStays (Word kind id) edits after token = (after ≡ true → Stands edits token) × (is_stray kind ≡ true → inserted After token edits ≡ [])
StrayStays Blank edits after token = Unit {0}
StrayStays Comment edits after token = Unit {0}
StrayStays Line edits after token = Unit {0}

-- nothing is inserted after a Stray, and a token whose nearest earlier piece that is not a blank is a Stray stays unchanged
abbrev pub StraysStay : List Edit → Bool → ℕ → List TextPiece → Type 0
StraysStay edits after token [] = Unit {0}
StraysStay edits after token (p ∷ pieces) = StrayStays p.kind edits after token × StraysStay edits (after_stray p.kind after) (id_after p.kind token) pieces

-- inserts are blanks and tokens other than Strays, and what comes after a Stray stays unchanged
pub record Fair (pieces : List TextPiece) (edits : List Edit) : Type 0 where
  pub inserts : list_all has_plain_inserts edits ≡ true
  pub strays : StraysStay edits false 0 pieces
