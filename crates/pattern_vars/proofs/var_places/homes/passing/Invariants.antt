use Rattle.std.proofs.Common.{◌≡◌, ◌||◌, ◌&&◌, drop}
use Rattle.std.specs.List.{list_any}
use Rattle.smpl_terms.specs.declared.var.Var.{Var}
use Rattle.smpl_terms.specs.Vars.{same_var}
use Rattle.pattern_vars.specs.Reads.{has}
use Rattle.pattern_vars.specs.Keys.{value_of}
use Rattle.pattern_vars.specs.VarPlaces.Homes.{passes}
use Rattle.pattern_vars.proofs.var_places.homes.passing.Given as goal

abbrev pub invariant-loop-i : goal.invariant-loop-i
invariant-loop-i l = (y : Var) →
    (has l.found y || list_any (λ v. passes l.again (value_of l.homes.entries v) && same_var v y) (drop l.i l.vars))
    ≡ list_any (λ v. passes l.again (value_of l.homes.entries v) && same_var v y) l.vars
