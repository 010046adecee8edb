-- Exported variables that have no value yet.
use Rattle.std.specs.Prelude.{Bool, true, ◌&&◌, not, is_some, List, [], ◌∷◌}
use Rattle.smpl_terms.specs.declared.var.Var.{Var}
use Rattle.smpl_terms.specs.Environments.{value_in}
use Rattle.env_parts.specs.Parts.{Pairs, is_among}

-- none of the variables has a value in the environment, and each occurs once
abbrev pub are_new : List Var → Pairs → Bool
are_new [] env = true
are_new (x ∷ xs) env = not (is_some (value_in env x)) && (not (is_among xs x) && are_new xs env)
