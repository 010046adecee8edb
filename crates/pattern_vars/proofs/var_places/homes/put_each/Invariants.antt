use Rattle.std.proofs.Common.{◌≡◌, ◌||◌, cond, Some, take}
use Rattle.smpl_terms.specs.declared.var.Var.{Var}
use Rattle.pattern_vars.specs.Reads.{has}
use Rattle.pattern_vars.specs.Keys.{value_of}
use Rattle.pattern_vars.proofs.var_places.homes.put_each.Given as goal

abbrev pub invariant-loop-i : goal.invariant-loop-i
invariant-loop-i l = (y : Var) → value_of l.homes.entries y
    ≡ cond (has (take l.i l.vars) y) (Some (record {
      place = l.place;
      here = has l.spread y || has l.later y;
      again =
          has l.later y;
    })) (value_of l.initial.homes.entries y)
