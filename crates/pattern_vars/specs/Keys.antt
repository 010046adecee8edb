-- Variables as keys of a set or a map.
use Rattle.std.specs.Prelude.{Bool, nat_eq, cond, ◌++◌, List, [], ◌∷◌, Option, None, Some}
use Rattle.std.specs.Ordering.{on, eq_of_both}
use Rattle.std.specs.Cmp.Lexicographic.{pointwise}
use Rattle.std.specs.Hash as fed
use Rattle.smpl_terms.specs.declared.var.Var.{Var}
use Rattle.smpl_terms.specs.Vars.{same_var}
use Rattle.pattern_vars.specs.declared.set.Key.{Key}

abbrev pub same_key : Key → Key → Bool
same_key = eq_of_both (on (λ k. k.var.rule) nat_eq) (on (λ k. k.var.name) (pointwise nat_eq))

abbrev pub key_input : Key → fed.HashWrites
key_input k = fed.u32 k.var.rule ++ fed.slice fed.u8 k.var.name

-- what a map with these entries has for a variable
abbrev pub value_of : {V : Type 0} → List (Key × V) → Var → Option V
value_of [] x = None
value_of (e ∷ es) x = cond (same_var e.0.var x) (Some e.1) (value_of es x)
