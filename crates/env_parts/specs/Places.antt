-- The place of each of some different environments.
use Rattle.std.specs.Prelude.{ℕ, suc, ◌≡◌, cond, Option, None, Some, List, [], ◌∷◌, option_map}
use Rattle.std.specs.Map.{lookup}
use Rattle.std.specs.Ordering.{is_eq}
use Rattle.env_parts.specs.declared.key.Key.{Key}
use Rattle.env_parts.specs.Parts.{Pairs, same_env, env_order}

-- the place of the first that is the same
abbrev pub place_in : Pairs → List Pairs → Option ℕ
place_in env [] = None
place_in env (e ∷ envs) = cond (same_env env e) (Some 0) (option_map suc (place_in env envs))

-- the entries of a search tree map each of these environments, and no other, to its place
abbrev pub ArePlaces : List (Key × ℕ) → List Pairs → Type 0
ArePlaces entries envs = (env : Pairs) → lookup (λ k. is_eq (env_order env k.env)) entries ≡ place_in env envs
