-- Which values the entries of a set assign to a variable, if the others have those of an environment.
use Rattle.std.specs.Prelude.{Bool, false, ◌&&◌, ◌||◌, cond, Option, None, Some, List, [], ◌∷◌}
use Rattle.std.specs.List.{list_any, list_all}
use Rattle.smpl_terms.specs.declared.var.Var.{Var}
use Rattle.smpl_terms.specs.declared.value.Value.{Value}
use Rattle.smpl_terms.specs.Vars.{same_var, Rising}
use Rattle.smpl_terms.specs.Values.{same}
use Rattle.smpl_terms.specs.Environments.{Environment}
use Rattle.env_sets.specs.declared.bounds.Bound.{Bound}
use Rattle.env_sets.specs.declared.bounds.Bound.TheVariants.{Is, Not}
use Rattle.env_sets.specs.Bounds.{fits}
use Rattle.env_sets.specs.Sets.{Entries}

-- the bounds of all variables but x allow their values
abbrev pub others_allow : Var → Environment → List (Var × Bound) → Bool
others_allow x env pairs = list_all (λ p. same_var p.0 x || fits (env p.0) p.1) pairs

abbrev pub as_value : Bound → Option Value
as_value (Is v) = Some v
as_value (Not vs) = None

-- the one value that x may have
abbrev pub own_value : Var → List (Var × Bound) → Option Value
own_value x [] = None
own_value x (p ∷ ps) = cond (same_var p.0 x) (as_value p.1) (own_value x ps)

abbrev pub is_same_as : Value → Option Value → Bool
is_same_as v None = false
is_same_as v (Some u) = same u v

-- some entry has v as the one value of x, and allows the values that env gives the others
abbrev pub chosen : Var → Environment → Entries → Value → Bool
chosen x env entries v = list_any (λ e. others_allow x env e && is_same_as v (own_value x e)) entries

-- the variables of each entry are ascending
abbrev pub AllRise : Entries → Type 0
AllRise [] = Unit {0}
AllRise (e ∷ es) = Rising e × AllRise es
