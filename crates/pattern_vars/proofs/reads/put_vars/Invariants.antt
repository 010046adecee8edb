use Rattle.std.proofs.Common.{◌≡◌, ◌||◌, drop}
use Rattle.smpl_terms.specs.declared.var.Var.{Var as Variable}
use Rattle.pattern_vars.specs.Reads.{has}
use Rattle.pattern_vars.proofs.reads.put_vars.Given as goal

abbrev pub invariant-loop-x : goal.invariant-loop-x
invariant-loop-x l = (y : Variable) → (has l.set y || has (drop l.x-index l.vars) y) ≡ (has l.initial.set y || has l.vars y)
