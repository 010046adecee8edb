-- Which values a set leaves variables, and which variables can be added to an environment.
use Rattle.std.specs.Prelude.{◌≡◌, true, false, None, List, [], ◌∷◌}
use Rattle.std.specs.List.{list_all}
use Rattle.smpl_terms.specs.declared.var.Var.{Var}
use Rattle.smpl_terms.specs.declared.value.Value.{Value}
use Rattle.smpl_terms.specs.Environments.{Environment, over, value_in}
use Rattle.env_parts.specs.Parts as parts
use Rattle.env_sets.specs.Sets.{Entries, set_denotes}
use Rattle.ctl_fixpoint.specs.CtlHolds.Values.{is_among}

-- none of the variables has a value in env, and each occurs once
abbrev pub AreNew : List Var → List (Var × Value) → Type 0
AreNew [] env = Unit {0}
AreNew (x ∷ xs) env = (value_in env x ≡ None) × (parts.is_among xs x ≡ false) × AreNew xs env

-- each environment in the set that has the values of env gives each of the variables one of these values
abbrev pub Leaves : List Value → List Var → Entries → List (Var × Value) → Type 0
Leaves values vars set env = (e : Environment) → set_denotes set (over env e) ≡ true
    → list_all (λ x. is_among values (over env e x)) vars ≡ true
