use Rattle.std.proofs.Common.{◌≡◌, ◌||◌, drop}
use Rattle.smpl_terms.specs.declared.var.Var.{Var as Variable}
use Rattle.pattern_vars.specs.Reads.{has}
use Rattle.pattern_vars.proofs.common.put_set.Given as goal

abbrev pub invariant-loop-i : goal.invariant-loop-i
invariant-loop-i l = (y : Variable) → (has l.set y || has (drop l.i l.other) y) ≡ (has l.initial.set y || has l.other y)
