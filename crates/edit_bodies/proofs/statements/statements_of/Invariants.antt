use Rattle.std.proofs.Common.{take}
use Rattle.edit_bodies.specs.Places.{AreByEdit}
use Rattle.edit_bodies.proofs.statements.statements_of.Given as goal

abbrev pub invariant-loop-number : goal.invariant-loop-number
invariant-loop-number l = AreByEdit (take l.number l.statements) l.all.items
