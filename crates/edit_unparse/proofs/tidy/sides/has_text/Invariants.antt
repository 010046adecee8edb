use Rattle.std.proofs.Common.{◌≡◌, drop}
use Rattle.edit_unparse.specs.Tidy.Spots.{placed_texts}
use Rattle.edit_unparse.proofs.tidy.sides.has_text.Given as goal

abbrev pub invariant-loop-placed : goal.invariant-loop-placed
invariant-loop-placed l = placed_texts l.edits (drop l.placed-index l.inserts) ≡ placed_texts l.edits l.inserts
