-- For internal use: what goes with the commas of lists, and what becomes of bodies, as the code has it.
use Rattle.std.specs.Prelude.{ℕ, ◌≡◌, ◌<◌, false, List, get_or, length}
use Rattle.c_lexer.specs.Pieces.{TextPiece}
use Rattle.cpp_lines.specs.declared.reading.Item.{Item}
use Rattle.edit_marks.specs.declared.edit_conflict.edit.Edit.{Edit}
use Rattle.edit_marks.specs.declared.tidy.walk.TidiedEdits.{TidiedEdits}
use Rattle.edit_unparse.specs.declared.tidy.commas.CommaList.{CommaList}
use Rattle.edit_unparse.specs.declared.tidy.fallen.Fallen.{Fallen}
use Rattle.edit_unparse.specs.declared.tidy.plan.Plan.{Plan}
use Rattle.edit_unparse.specs.Tidy.Fallen.{has_place, insert_falls, piece_falls}
use Rattle.edit_bodies.specs.declared.see.SeenBodies.{SeenBodies}
use Rattle.edit_bodies.specs.Looks.{Seen}
use Rattle.edit_bodies.specs.Laid.{AreSeen}
use Rattle.edit_bodies.specs.Scenes.{in_code}

-- these are the pieces that go with the commas of the lists
pub record Falls (pieces : List TextPiece) (edits : List Edit) (plan : Plan) (lists : List CommaList) (fallen : Fallen) : Type 0 where
  pub count : length fallen.pieces.items ≡ length pieces
  pub old : (n : ℕ) → n < length pieces → get_or fallen.pieces.items n false ≡ piece_falls edits plan pieces lists n
  pub added : (edit insert offset : ℕ) → edit < length edits
      → has_place edit insert offset fallen.added.items ≡ insert_falls edits plan pieces lists edit insert offset

-- what becomes of the bodies of an outline
pub record IsSeen (pieces : List TextPiece) (items : List Item) (edits : TidiedEdits) (plan : Plan) (lists : List CommaList) (made : SeenBodies) : Type 0 where
  pub seen : Seen
  pub are_seen : AreSeen pieces items edits plan lists seen
  pub made_so : made ≡ in_code seen
