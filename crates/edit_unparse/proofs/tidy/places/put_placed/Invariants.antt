use Rattle.std.proofs.Common.{◌≡◌, ◌++◌, drop}
use Rattle.edit_unparse.specs.Tidy.Found.{placed_marks}
use Rattle.edit_unparse.proofs.tidy.places.put_placed.Given as goal

abbrev pub invariant-loop-mark : goal.invariant-loop-mark
invariant-loop-mark l = l.found.items ++ placed_marks l.depths l.side l.spot (drop l.mark-index l.marks)
    ≡ l.initial.found.items ++ placed_marks l.depths l.side l.spot l.marks
