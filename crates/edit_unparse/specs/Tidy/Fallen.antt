-- Which parts of the new text go with the commas of lists, each by the old piece or by the place in an insert that it is from.
use Rattle.std.specs.Prelude.{ℕ, ◌≡◌, ◌+◌, ◌*◌, ◌%◌, ◌==◌, ◌&&◌, ◌||◌, Bool, true, false, not, List, [], ◌∷◌, ◌++◌}
use Rattle.std.specs.Prelude.{Option, Some, None, Vec, drop, fold, get_or, length, map, slice_get}
use Rattle.std.specs.List.{list_any}
use Rattle.c_lexer.specs.declared.piece.PieceKind.{PieceKind}
use Rattle.c_lexer.specs.declared.piece.PieceKind.TheVariants.{Word, Blank, Comment, Line}
use Rattle.c_lexer.specs.Pieces.{TextPiece}
use Rattle.c_lexer.specs.Lexes.{id_after}
use Rattle.edit_marks.specs.declared.edit_conflict.edit.Edit.{Edit}
use Rattle.edit_unparse.specs.declared.tidy.commas.CommaList.{CommaList}
use Rattle.edit_unparse.specs.declared.tidy.parts.Origin.{Origin}
use Rattle.edit_unparse.specs.declared.tidy.plan.Placed.{Placed}
use Rattle.edit_unparse.specs.declared.tidy.plan.Plan.{Plan}
use Rattle.edit_unparse.specs.Output.{Part, added, kept, new_parts}
use Rattle.edit_unparse.specs.Written.{edit_text}
use Rattle.tidy_flags.specs.Lines.{emptied}
use Rattle.edit_unparse.specs.Tidy.Commas.{is_from, sign_of}
use Rattle.edit_unparse.specs.Tidy.Plans.{inserts_there, placement_in}
use Rattle.edit_unparse.specs.Tidy.Text.{bytes_at, line_bytes, tidy_parts, tidy_placed, with_commas}

-- a part with a number: that of its old piece, or this one
abbrev pub part_number : ℕ → Option ℕ → ℕ
part_number next None = next
part_number next (Some number) = number

-- the parts, of which each that is no old piece has a number of its own too: the numbers count up from this one with the parts
abbrev pub numbered : ℕ → List Part → List Part
numbered next [] = []
numbered next (p ∷ parts) = record { from = Some (part_number next p.from); piece = p.piece } ∷ numbered (next + 1) parts

-- a part with this number is among these
abbrev pub has_part : ℕ → List Part → Bool
has_part number parts = list_any (λ p. is_from number p.from) parts

-- where the parts of an insert are from, given the numbers of its edit and of itself there, and the offset of the first
abbrev pub origins_from : ℕ → ℕ → ℕ → List Part → List (Option Origin)
origins_from edit insert offset [] = []
origins_from edit insert offset (p ∷ parts) = Some (record { edit = edit; insert = insert; offset = offset })
    ∷ origins_from edit insert (offset + length p.piece.text) parts

abbrev pub text_origins : Placed → Option (List ℕ) → List (Option Origin)
text_origins p None = []
text_origins p (Some text) = origins_from p.edit p.insert 0 (new_parts text)

abbrev pub insert_origins : List Edit → List Placed → List (Option Origin)
insert_origins edits [] = []
insert_origins edits (p ∷ inserts) = text_origins p (edit_text (slice_get edits p.edit) p.insert) ++ insert_origins edits inserts

-- for each of these parts that it is from no insert
abbrev pub no_origins : List Part → List (Option Origin)
no_origins parts = map (λ p. None) parts

module _ (edits : List Edit) (plan : Plan) where
  -- where the parts at the place of a piece are from
  abbrev pub origins_at : PieceKind → List Bool → ℕ → ℕ → TextPiece → List (Option Origin)
  origins_at (Word kind id) flags token number p = insert_origins edits (inserts_there plan token false)
      ++ (no_origins (kept ((placement_in edits plan).goes token) number p) ++ insert_origins edits (inserts_there plan token true))
  origins_at Blank flags token number p = no_origins (tidy_parts (placement_in edits plan) added [] Blank flags token number p)
  origins_at Comment flags token number p = None ∷ []
  origins_at Line flags token number p = None ∷ []

  -- where the parts of the new text are from, before the commas go and without braces
  abbrev pub origins : List Bool → ℕ → ℕ → List TextPiece → List (Option Origin)
  origins flags token number [] = []
  origins flags token number (p ∷ pieces) = origins_at p.kind flags token number p
      ++ origins (drop (length (bytes_at (placement_in edits plan) p.kind token p.text)) flags) (id_after p.kind token) (number + 1) pieces

  abbrev pub line_flags : List TextPiece → List Bool
  line_flags pieces = emptied (line_bytes (placement_in edits plan) 0 pieces)

  abbrev pub all_origins : List TextPiece → List (Option Origin)
  all_origins pieces = origins (line_flags pieces) 0 0 pieces

  -- these parts
  abbrev pub all_parts : List TextPiece → List Part
  all_parts pieces = tidy_placed (placement_in edits plan) added [] (line_flags pieces) 0 0 pieces

  -- the same with numbers, those of new parts behind those of old pieces, and those that are left when the commas have gone
  abbrev pub all_numbered : List TextPiece → List Part
  all_numbered pieces = numbered (length pieces + 1) (all_parts pieces)

  abbrev pub left_numbered : List TextPiece → List CommaList → List Part
  left_numbered pieces lists = fold (with_commas (placement_in edits plan) plan.pieces.items) (all_numbered pieces) lists

  -- an old piece goes
  abbrev pub piece_falls : List TextPiece → List CommaList → ℕ → Bool
  piece_falls pieces lists number = has_part number (all_numbered pieces) && not (has_part number (left_numbered pieces lists))

abbrev pub is_origin : ℕ → ℕ → ℕ → Option Origin → Bool
is_origin edit insert offset None = false
is_origin edit insert offset (Some o) = o.edit == edit && (o.insert == insert && o.offset == offset)

-- a part from this place in an insert is not among those that are left, given where the parts are from, and the number of the
-- first if it is new
abbrev pub falls_from : ℕ → ℕ → ℕ → ℕ → List (Option Origin) → List Part → Bool
falls_from edit insert offset next [] left = false
falls_from edit insert offset next (o ∷ origins) left =
    (is_origin edit insert offset o && not (has_part next left)) || falls_from edit insert offset (next + 1) origins left

-- the piece at this offset of an insert goes
abbrev pub insert_falls : List Edit → Plan → List TextPiece → List CommaList → ℕ → ℕ → ℕ → Bool
insert_falls edits plan pieces lists edit insert offset =
    falls_from edit insert offset (length pieces + 1) (all_origins edits plan pieces) (left_numbered edits plan pieces lists)

-- the parts that are the old piece with this number stand at the same places
abbrev pub StandAlike : ℕ → List Part → List Part → Type 0
StandAlike number a b = map (λ p. is_from number p.from) a ≡ map (λ p. is_from number p.from) b

-- For lists these parts are as those: they have the same signs, and the pieces of tokens, which have these numbers, stand at
-- the same places.
pub record LooksAs (tokens : List ℕ) (a b : List Part) : Type 0 where
  pub signs : map sign_of a ≡ map sign_of b
  pub pieces : (token : ℕ) → StandAlike (get_or tokens token 0) a b

-- this is the place in an insert
abbrev pub is_here : ℕ → ℕ → Origin → Bool
is_here insert offset o = o.insert == insert && o.offset == offset

abbrev pub has_here : {Z : Type 0} → ℕ → ℕ → Option (Vec Origin Z) → Bool
has_here insert offset None = false
has_here insert offset (Some own) = list_any (is_here insert offset) own.items

-- the place in an insert is among these, which stand by the numbers of the edits
abbrev pub has_place : {Z : Type 0} → ℕ → ℕ → ℕ → List (Vec Origin Z) → Bool
has_place edit insert offset places = has_here insert offset (slice_get places edit)

-- a number for a place in an insert, which tells it from the others of an edit with fewer than 2^32 inserts
abbrev pub place_number : ℕ → ℕ → ℕ
place_number insert offset = insert % 4294967296 * 4294967296 + offset % 4294967296

abbrev pub origin_number : Origin → ℕ
origin_number o = place_number o.insert o.offset

abbrev pub is_numbered : ℕ → Origin → Bool
is_numbered number o = origin_number o == number

-- the places of the edit with this number
abbrev pub own_of : {Z : Type 0} → Option (Vec Origin Z) → List Origin
own_of None = []
own_of (Some own) = own.items

abbrev pub own_places : {Z : Type 0} → ℕ → List (Vec Origin Z) → List Origin
own_places edit places = own_of (slice_get places edit)
