-- Edits, lists and braces whose tidied text is cut into the pieces that it was assembled from.
use Rattle.std.specs.Prelude.{◌≡◌, ◌+◌, ◌-◌, ◌&&◌, Bool, true, false, not, List, [], ◌∷◌, ◌++◌, get_or, nat_lt, if◌then◌else◌}
use Rattle.std.specs.List.{list_all, list_any, range_with_len}
use Rattle.c_lexer.specs.declared.piece.PieceKind.{PieceKind}
use Rattle.c_lexer.specs.declared.piece.PieceKind.TheVariants.{Word, Blank, Comment, Line}
use Rattle.c_lexer.specs.Pieces.{TextPiece}
use Rattle.edit_marks.specs.declared.edit_conflict.edit.Edit.{Edit}
use Rattle.tidy_flags.specs.Signs.{is_closing}
use Rattle.edit_unparse.specs.declared.tidy.commas.CommaList.{CommaList}
use Rattle.edit_unparse.specs.declared.tidy.parts.Brace.{Brace}
use Rattle.edit_unparse.specs.Fair.{Fair, after_stray, is_plain_text, is_stray}
use Rattle.edit_unparse.specs.Tidy.Text.{Frame}

abbrev pub token_flag : PieceKind → Bool → List Bool
token_flag (Word kind id) flag = flag ∷ []
token_flag Blank flag = []
token_flag Comment flag = []
token_flag Line flag = []

-- for each token whether the nearest earlier piece that is not a blank is a Stray
abbrev pub behind_strays : Bool → List TextPiece → List Bool
behind_strays after [] = []
behind_strays after (p ∷ pieces) = token_flag p.kind after ++ behind_strays (after_stray p.kind after) pieces

abbrev pub stray_kind : PieceKind → Bool
stray_kind (Word kind id) = is_stray kind
stray_kind Blank = false
stray_kind Comment = false
stray_kind Line = false

-- for each token whether it is a Stray
abbrev pub strays : List TextPiece → List Bool
strays [] = []
strays (p ∷ pieces) = token_flag p.kind (stray_kind p.kind) ++ strays pieces

-- the brace stands behind a Stray
abbrev pub is_behind_stray : List TextPiece → Brace → Bool
is_behind_stray pieces b = if b.after then get_or (strays pieces) b.token false else get_or (behind_strays false pieces) b.token false

-- for each token whether it is a closing bracket
abbrev pub closings : List TextPiece → List Bool
closings [] = []
closings (p ∷ pieces) = token_flag p.kind (is_closing p.text) ++ closings pieces

-- a token of the list stands behind a Stray
abbrev pub has_stray : List TextPiece → CommaList → Bool
has_stray pieces l = list_any (λ n. get_or (behind_strays false pieces) n false) (range_with_len (l.opening + 1) (l.closing - l.opening))

-- the list ends with a closing bracket behind its opening one, and no token of it stands behind a Stray
abbrev pub is_fair_list : List TextPiece → CommaList → Bool
is_fair_list pieces l = nat_lt l.opening l.closing && (get_or (closings pieces) l.closing false && not (has_stray pieces l))

-- the edits are fair, braces are blanks and tokens other than Strays, and none of them, nor a token of a list, is behind a Stray
pub record TidyFair (pieces : List TextPiece) (edits : List Edit) (frame : Frame) : Type 0 where
  pub fair : Fair pieces edits
  pub plain : list_all (λ b. is_plain_text b.text) frame.braces ≡ true
  pub braces : list_all (λ b. not (is_behind_stray pieces b)) frame.braces ≡ true
  pub lists : list_all (is_fair_list pieces) frame.lists ≡ true
