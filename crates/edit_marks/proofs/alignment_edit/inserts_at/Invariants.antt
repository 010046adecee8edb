use Rattle.std.proofs.Common.{◌≡◌, ◌++◌, drop}
use Rattle.edit_marks.specs.Edits.{inserts_at}
use Rattle.edit_marks.proofs.alignment_edit.inserts_at.Given as goal

abbrev pub invariant-loop-spot : goal.invariant-loop-spot
invariant-loop-spot l = l.inserts.items ++ inserts_at l.decls l.tokens l.env l.files l.removed (drop l.spot-index l.spots)
    ≡ inserts_at l.decls l.tokens l.env l.files l.removed l.spots
