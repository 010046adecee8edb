use Rattle.std.proofs.Common.{◌≡◌, ◌++◌, drop}
use Rattle.edit_marks.specs.Tidy.Edits.{blocks_at}
use Rattle.edit_marks.proofs.tidy.edit.blocks_at.Given as goal

abbrev pub invariant-loop-spot : goal.invariant-loop-spot
invariant-loop-spot l = l.blocks.items ++ blocks_at l.decls l.tokens l.env (drop l.spot-index l.spots) ≡ blocks_at l.decls l.tokens l.env l.spots
