use Rattle.std.proofs.Common.{◌≡◌, ◌++◌, drop}
use Rattle.edit_unparse.specs.Tidy.Fair.{closings}
use Rattle.edit_bodies.proofs.calm.closings.Given as goal

abbrev pub invariant-loop-i : goal.invariant-loop-i
invariant-loop-i l = l.flags.items ++ closings (drop l.i l.lexed) ≡ closings l.lexed
