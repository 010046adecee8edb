use Rattle.std.proofs.Common.{◌≡◌, ◌<◌, ℕ, true, Some, slice_get}
use Rattle.smpl_terms.specs.declared.var.Var.{Var as Variable}
use Rattle.pattern_vars.specs.VarPlaces.Ordered.{has_number}
use Rattle.pattern_vars.proofs.var_places.ordered.is_numbered.Given as goal

abbrev pub invariant-loop-i : goal.invariant-loop-i
invariant-loop-i l = (k : ℕ) (y : Variable) → k < l.i → slice_get l.vars k ≡ Some y → has_number l.numbers k y ≡ true
