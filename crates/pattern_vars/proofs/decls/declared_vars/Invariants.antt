use Rattle.std.proofs.Common.{◌≡◌, ◌||◌, drop}
use Rattle.smpl_terms.specs.declared.var.Var.{Var}
use Rattle.pattern_vars.specs.Reads.{has, is_declared}
use Rattle.pattern_vars.proofs.decls.declared_vars.Given as goal

abbrev pub invariant-loop-d : goal.invariant-loop-d
invariant-loop-d l = (x : Var) → (has l.vars x || is_declared (drop l.d-index l.d-items) x) ≡ is_declared l.decls x
