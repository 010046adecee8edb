-- The lists whose commas may go.
use Rattle.std.specs.Prelude.{ℕ, ◌≡◌, ◌<◌, ◌+◌, ◌-◌, ◌&&◌, Bool, true, false, not, List, [], ◌∷◌, ◌++◌, count_by, get_or, length, take}
use Rattle.std.specs.List.{list_any, range_with_len}
use Rattle.c_lexer.specs.declared.piece.PieceKind.{PieceKind}
use Rattle.c_lexer.specs.declared.piece.PieceKind.TheVariants.{Word, Blank, Comment, Line}
use Rattle.c_lexer.specs.Pieces.{TextPiece}
use Rattle.edit_unparse.specs.declared.tidy.commas.CommaList.{CommaList}
use Rattle.edit_unparse.specs.Tidy.Fair.{behind_strays, closings, is_fair_list, token_flag}
use Rattle.edit_bodies.specs.declared.calm.TokenMarks.{TokenMarks}

-- whether, after a piece, a `#` line stands behind the last token
abbrev pub after_line : PieceKind → Bool → Bool
after_line (Word kind id) after = false
after_line Blank after = after
after_line Comment after = after
after_line Line after = true

-- for each token whether a `#` line stands between it and the token before it
abbrev pub behind_lines : Bool → List TextPiece → List Bool
behind_lines after [] = []
behind_lines after (p ∷ pieces) = token_flag p.kind after ++ behind_lines (after_line p.kind after) pieces

-- of the tokens of a list behind its opening bracket, one is flagged
abbrev pub has_flag : List Bool → CommaList → Bool
has_flag flags l = list_any (λ n. get_or flags n false) (range_with_len (l.opening + 1) (l.closing - l.opening))

-- the list ends with a closing bracket behind its opening one, and no token of it stands behind a Stray or a `#` line
abbrev pub is_calm : List TextPiece → CommaList → Bool
is_calm pieces l = is_fair_list pieces l && not (has_flag (behind_lines false pieces) l)

-- ---- for internal use

-- for each flag how many of those up to it are set
pub record AreSetCounts (flags : List Bool) (counts : List ℕ) : Type 0 where
  pub long : length counts ≡ length flags
  pub each : (n : ℕ) → n < length counts → get_or counts n 0 ≡ count_by (λ f. f) (take (n + 1) flags)

-- what is known of the tokens of a text
pub record AreMarks (pieces : List TextPiece) (marks : TokenMarks) : Type 0 where
  pub closings : marks.closings.items ≡ closings pieces
  pub strays : AreSetCounts (behind_strays false pieces) marks.strays.items
  pub lines : AreSetCounts (behind_lines false pieces) marks.lines.items
