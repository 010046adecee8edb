use Rattle.std.proofs.Common.{map, take}
use Rattle.edit_bodies.specs.Rows.{brace, ending_at}
use Rattle.edit_bodies.specs.Scenes.{AddsRow}
use Rattle.edit_bodies.proofs.rows.put_braces.Given as goal

abbrev pub invariant-loop-opens : goal.invariant-loop-opens
invariant-loop-opens l = AddsRow (ending_at l.spot (map brace (take l.opens-index l.opens-items))) l.initial.row l.row
