-- What scopes share.
use Rattle.std.specs.Prelude.{◌≡◌, ℕ, List, flat_map}
use Rattle.std.specs.List.{position_from}
use Rattle.smpl_terms.specs.declared.var.Var.{Var}
use Rattle.smpl_terms.specs.Vars.{same_var}
use Rattle.pattern_vars.specs.declared.set.Key.{Key}
use Rattle.pattern_vars.specs.Keys.{value_of}

-- the variables of the lists, in order
abbrev pub joined : List (List Var) → List Var
joined lists = flat_map (λ vars. vars) lists

-- the map has the first place of each variable; the first of the list is at place n
abbrev pub AreFirsts : List (Key × ℕ) → ℕ → List Var → Type 0
AreFirsts entries n vars = (x : Var) → value_of entries x ≡ position_from (λ v. same_var v x) n vars
