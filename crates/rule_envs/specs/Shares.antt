-- Which environments take part in a rule, and what it is run under.
use Rattle.std.specs.Prelude.{ℕ, Bool, ◌≡◌, ◌&&◌, cond, Option, None, Some, List, slice_get}
use Rattle.std.specs.List.{list_all, filter_map}
use Rattle.smpl_terms.specs.declared.var.Var.{Var}
use Rattle.smpl_terms.specs.Environments.{has_value}
use Rattle.smpl_patch.specs.declared.rule.Dep.{Dep}
use Rattle.env_parts.specs.Parts.{Pairs, restricted, distinct, bare_env}
use Rattle.rule_envs.specs.declared.file_env.FileEnv.{FileEnv}
use Rattle.rule_envs.specs.Depends.{judge}

-- the environment without the ids of tokens
abbrev pub bare_file_env : FileEnv → FileEnv
bare_file_env c = record c { env = bare_env c.env }

module _ (defined : List (List ℕ)) (had : List ℕ) (depends : Dep) (inherited : List Var) where
  -- the condition that the rule depends on holds for the environment, and it has all inherited variables
  abbrev pub takes_part : FileEnv → Bool
  takes_part c = judge c.rules had defined depends && list_all (has_value c.env) inherited

  -- its values of the inherited variables, if it takes part
  abbrev pub share : FileEnv → Option Pairs
  share c = cond (takes_part c) (Some (restricted inherited c.env)) None

  -- what the rule is run under: the distinct shares, in the order in which they first appear
  abbrev pub projections : List FileEnv → List Pairs
  projections file_envs = distinct (filter_map share file_envs)

-- the place of a share among the projections, or none if there is no share
abbrev pub StandsAt : List Pairs → Option Pairs → Option ℕ → Type 0
StandsAt projections None place = place ≡ None
StandsAt projections (Some env) place = (k : ℕ) × ((place ≡ Some k) × (slice_get projections k ≡ Some env))
