use Rattle.std.proofs.Common.{take}
use Rattle.edit_bodies.specs.Rows.{row_front}
use Rattle.edit_bodies.specs.Scenes.{AddsRow, text_in}
use Rattle.edit_bodies.proofs.rows.put_front.Given as goal

abbrev pub invariant-loop-token : goal.invariant-loop-token
invariant-loop-token l = AddsRow (row_front (text_in l.scene) l.braces (take l.token-index l.tokens)) l.initial.row l.row
