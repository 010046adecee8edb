use Rattle.std.proofs.Common.{take}
use Rattle.env_sets.specs.Rising.{Rise}
use Rattle.env_sets.proofs.values.is_rising.Given as goal

abbrev pub invariant-loop-i : goal.invariant-loop-i
invariant-loop-i l = Rise (take l.i l.items)
