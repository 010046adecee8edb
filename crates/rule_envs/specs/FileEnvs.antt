-- The environments after a rule.
use Rattle.std.specs.Prelude.{ℕ, ◌≡◌, Option, None, Some, List, [], ◌∷◌, ◌++◌, map}
use Rattle.std.specs.List.{flat_map, AllZip}
use Rattle.smpl_terms.specs.declared.var.Var.{Var}
use Rattle.env_parts.specs.Parts.{Pairs, restricted, joined, distinct}
use Rattle.rule_envs.specs.declared.file_env.FileEnv.{FileEnv}
use Rattle.rule_envs.specs.Shares.{StandsAt}

-- the distinct values of the exported variables in the environments of witnesses
abbrev pub exported : List Var → List Pairs → List Pairs
exported exports envs = distinct (map (restricted exports) envs)

-- the most environments after a rule
abbrev pub most_environments : ℕ
most_environments = 10000

-- before the first rule there is one empty environment, which carries no rule
abbrev pub first_file_envs : List FileEnv
first_file_envs = record { env = []; rules = [] } ∷ []

-- the environment with these values too; it now carries the rule
abbrev pub extended : ℕ → FileEnv → Pairs → FileEnv
extended number c part = record { env = joined c.env part; rules = c.rules ++ number ∷ [] }

-- an environment stays if there are no parts, and otherwise is replaced by its extensions, in order
abbrev pub replaced : ℕ → FileEnv → List Pairs → List FileEnv
replaced number c [] = c ∷ []
replaced number c (part ∷ parts) = map (extended number c) (part ∷ parts)

-- Given what each environment shares with the rule, if it takes part, and what the rule finds under each share: the distinct
-- exported values of its witnesses.
module _ (number : ℕ) (share : FileEnv → Option Pairs) (brings : Pairs → List Pairs) where
  abbrev pub becomes_by : FileEnv → Option Pairs → List FileEnv
  becomes_by c None = c ∷ []
  becomes_by c (Some env) = replaced number c (brings env)

  -- each in its place
  abbrev pub next_file_envs : List FileEnv → List FileEnv
  next_file_envs file_envs = flat_map (λ c. becomes_by c (share c)) file_envs

-- Each environment has the place of its share among some projections, and these parts are what is found under each of them.
pub record AreBrought (share : FileEnv → Option Pairs) (brings : Pairs → List Pairs) (file_envs : List FileEnv)
    (places : List (Option ℕ)) (parts : List (List Pairs)) : Type 0 where
  pub projections : List Pairs
  pub shares : AllZip (StandsAt projections) (map share file_envs) places
  pub brought : parts ≡ map brings projections
