-- For internal use: the parts of the new text, as the code has them.
use Rattle.std.specs.Prelude.{ℕ, List, [], get_or, map, Option, None, Some}
use Rattle.c_lexer.specs.declared.piece.PieceKind.TheVariants.{Blank}
use Rattle.c_lexer.specs.Pieces.{TextPiece}
use Rattle.c_lexer.specs.Spans.{kind_with_id}
use Rattle.edit_unparse.specs.declared.tidy.parts.Origin.{Origin}
use Rattle.edit_unparse.specs.declared.tidy.parts.TextPart.{TextPart}
use Rattle.edit_unparse.specs.declared.tidy.parts.TextPart.TheVariants.{Old, Cut, New}
use Rattle.edit_unparse.specs.declared.tidy.layout.Layout.{Layout}
use Rattle.edit_unparse.specs.Output.{Part, old_part}
use Rattle.edit_unparse.specs.Tidy.Text.{Frame}

-- the piece with this number, or an empty one
abbrev pub piece_or : List TextPiece → ℕ → TextPiece
piece_or pieces number = get_or pieces number (record { kind = Blank; text = [] })

abbrev pub part_in : List TextPiece → TextPart → Part
part_in pieces (Old number) = old_part number (piece_or pieces number)
part_in pieces (Cut number text) = old_part number (record { kind = Blank; text = text.items })
part_in pieces (New p) = record { from = None; piece = record { kind = kind_with_id p.kind 0; text = p.text } }

-- where a part of an insert is from
abbrev pub origin_in : TextPart → Option Origin
origin_in (Old number) = None
origin_in (Cut number text) = None
origin_in (New p) = p.origin

-- the same place, but for the offset
abbrev pub moved_to : ℕ → Option Origin → Option Origin
moved_to offset None = None
moved_to offset (Some o) = Some (record { edit = o.edit; insert = o.insert; offset = offset })

abbrev pub origins_in : List TextPart → List (Option Origin)
origins_in parts = map origin_in parts

abbrev pub parts_in : List TextPiece → List TextPart → List Part
parts_in pieces parts = map (part_in pieces) parts

abbrev pub frame_of : Layout → Frame
frame_of l = record { gone = l.gone.items; depths = l.depths.items; lists = l.lists.items; braces = l.braces.items }
