use Rattle.std.proofs.Common.{take}
use Rattle.edit_bodies.specs.Rows.{row_side}
use Rattle.edit_bodies.specs.Scenes.{AddsRow, text_in}
use Rattle.edit_bodies.proofs.rows.put_side.Given as goal

abbrev pub invariant-loop-i : goal.invariant-loop-i
invariant-loop-i l = AddsRow (row_side (text_in l.scene) l.braces l.side.0 l.side.1 (take l.i l.inserts)) l.fn.row l.row
