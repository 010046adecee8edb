use Rattle.std.proofs.Common.{take}
use Rattle.edit_bodies.specs.Rows.{ending_at}
use Rattle.edit_bodies.specs.Scenes.{AddsRow}
use Rattle.edit_bodies.proofs.rows.put_words.Given as goal

abbrev pub invariant-loop-word : goal.invariant-loop-word
invariant-loop-word l = AddsRow (ending_at l.spot (take l.word-index l.words)) l.initial.row l.row
