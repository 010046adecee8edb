-- Which removed tokens are joined, and which inserts stand at the places of tokens.
use Rattle.std.specs.Prelude.{ℕ, zero, suc, ◌+◌, ◌==◌, ◌&&◌, ◌||◌, Bool, true, false, not, List, [], ◌∷◌, ◌++◌, fold, get_or, max, nat_le}
use Rattle.std.specs.Prelude.{if◌then◌else◌}
use Rattle.std.specs.List.{list_any}
use Rattle.c_lexer.specs.declared.piece.PieceKind.{PieceKind}
use Rattle.c_lexer.specs.declared.piece.PieceKind.TheVariants.{Word, Blank, Comment, Line}
use Rattle.c_lexer.specs.Pieces.{TextPiece}
use Rattle.c_lexer.specs.Lexes.{id_after}
use Rattle.edit_marks.specs.declared.edit_conflict.edit.Side.{Side}
use Rattle.edit_marks.specs.declared.edit_conflict.edit.Side.TheVariants.{Before, After}
use Rattle.edit_marks.specs.declared.edit_conflict.edit.Insert.{Insert}
use Rattle.edit_marks.specs.declared.edit_conflict.edit.Edit.{Edit}
use Rattle.edit_marks.specs.EditConflict.Clashes.{removes}
use Rattle.edit_marks.specs.EditConflict.Same.{side_number}
use Rattle.edit_unparse.specs.declared.tidy.flags.Extent.{Extent}
use Rattle.edit_unparse.specs.declared.tidy.plan.Placed.{Placed}
use Rattle.edit_unparse.specs.declared.tidy.plan.Spot.{Spot}
use Rattle.edit_unparse.specs.Output.{is_removed}
use Rattle.edit_unparse.specs.Tidy.Spots.{deepest_from, spot}

abbrev pub is_within : ℕ → Extent → Bool
is_within token x = nat_le x.first token && nat_le token x.last

-- both tokens are of one statement, of those of which nothing stays
abbrev pub are_gone : List Extent → ℕ → ℕ → Bool
are_gone gone a b = list_any (λ x. is_within a x && is_within b x) gone

-- one edit removes both tokens; a statement of which nothing stays counts as removed by one edit, which removes nothing else
abbrev pub has_one_owner : List Edit → List Extent → ℕ → ℕ → Bool
has_one_owner edits gone a b =
    if list_any (λ x. is_within a x || is_within b x) gone then is_removed a edits && is_removed b edits && are_gone gone a b
    else list_any (λ e. removes a e && removes b e) edits

-- a blank without a backslash
abbrev pub is_plain : PieceKind → List ℕ → Bool
is_plain Blank text = not (list_any (λ b. b == 92) text)
is_plain (Word kind id) text = false
is_plain Comment text = false
is_plain Line text = false

-- whether a token is joined to the one before it, given whether only plain blanks stand between them
abbrev pub is_joined : List Edit → List Extent → Bool → ℕ → Bool
is_joined edits gone plain zero = false
is_joined edits gone plain (suc n) = plain && has_one_owner edits gone n (suc n)

-- whether a piece that is a token is joined to the one before it
abbrev pub joint_of : PieceKind → List Edit → List Extent → Bool → ℕ → List Bool
joint_of (Word kind id) edits gone plain token = is_joined edits gone plain token ∷ []
joint_of Blank edits gone plain token = []
joint_of Comment edits gone plain token = []
joint_of Line edits gone plain token = []

-- whether only plain blanks stand between the last token and what comes after a piece
abbrev pub plain_after : PieceKind → Bool → List ℕ → Bool
plain_after (Word kind id) plain text = true
plain_after Blank plain text = plain && is_plain Blank text
plain_after Comment plain text = false
plain_after Line plain text = false

-- for each token whether it is joined to the one before it: nothing but plain blanks stands between them, and one edit
-- removes both
abbrev pub joints_from : List Edit → List Extent → ℕ → Bool → List TextPiece → List Bool
joints_from edits gone token plain [] = []
joints_from edits gone token plain (p ∷ pieces) =
    joint_of p.kind edits gone plain token ++ joints_from edits gone (id_after p.kind token) (plain_after p.kind plain p.text) pieces

abbrev pub joints : List Edit → List Extent → List TextPiece → List Bool
joints edits gone pieces = joints_from edits gone 0 true pieces

-- the inserts that edits have on one side of a token, which stand at this place
module _ (depths : List ℕ) (side : Side) (token : ℕ) (place : Spot) where
  -- those of an edit with this number, of which the first has this number
  abbrev pub inserts_in : ℕ → ℕ → List Insert → List Placed
  inserts_in edit number [] = []
  inserts_in edit number (i ∷ inserts) = if i.token == token && side_number i.side == side_number side
      then record { spot = place; edit = edit; insert = number; depth = get_or depths edit 0 } ∷ inserts_in edit (number + 1) inserts
      else inserts_in edit (number + 1) inserts

  -- those of edits, of which the first has this number
  abbrev pub inserts_from : ℕ → List Edit → List Placed
  inserts_from edit [] = []
  inserts_from edit (e ∷ edits) = inserts_in edit 0 e.inserts ++ inserts_from (edit + 1) edits

module _ (edits : List Edit) (depths : List ℕ) where
  -- the inserts at a removed token, which stand at this place
  abbrev pub inserts_at : Spot → ℕ → List Placed
  inserts_at place token = inserts_from depths Before token place 0 edits ++ inserts_from depths After token place 0 edits

  -- the inserts at the tokens of a run, given for each token behind its first whether it is joined to the one before it
  abbrev pub run_inserts : Spot → ℕ → List Bool → List Placed
  run_inserts place token [] = inserts_at place token
  run_inserts place token (false ∷ rest) = inserts_at place token
  run_inserts place token (true ∷ rest) = inserts_at place token ++ run_inserts place (token + 1) rest

  -- the inserts that stand before the place of a token, and after it, given whether it goes, whether it is joined to the one
  -- before it, and which of those behind it are; after a token that stays, those of the deepest edits first
  abbrev pub inserts_before : Bool → Bool → ℕ → List Bool → List Placed
  inserts_before false joined token rest = inserts_from depths Before token (spot token false) 0 edits
  inserts_before true true token rest = []
  inserts_before true false token rest = run_inserts (spot token false) token rest

  abbrev pub inserts_after : Bool → ℕ → List Placed
  inserts_after true token = []
  inserts_after false token = deepest_from (fold max 0 depths) (inserts_from depths After token (spot token true) 0 edits)
