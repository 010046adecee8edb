-- Examples of the definitions, above all where two readings would differ.
use Rattle.std.proofs.Common.{◌≡◌, ℕ, Bool, true, false, ◌&&◌, cond, Some, None, refl, ap, List, [], ◌∷◌}
use Rattle.std.specs.Prelude.{codes}
use Rattle.std.specs.List.{filter_map, list_all}
use Rattle.smpl_terms.specs.declared.var.Var.{Var}
use Rattle.smpl_terms.specs.declared.value.Value.TheVariants.{Place}
use Rattle.smpl_terms.specs.Environments.{has_value}
use Rattle.smpl_patch.specs.declared.rule.Dep.TheVariants.{Always, Had, Ever}
use Rattle.env_parts.specs.Parts.{Pairs, restricted, distinct}
use Rattle.rule_envs.specs.declared.file_env.FileEnv.{FileEnv}
use Rattle.rule_envs.specs.Depends.{judge}
use Rattle.rule_envs.specs.Shares.{projections}
use Rattle.rule_envs.specs.FileEnvs.{exported, first_file_envs, next_file_envs}
use Rattle.rule_envs.proofs.DependLemmas.{judge-Always, judge-Had, judge-Ever}

abbrev a : Var
a = record { rule = 0; name = codes "a" }

abbrev b : Var
b = record { rule = 0; name = codes "b" }

abbrev both : ℕ → ℕ → Pairs
both n m = (a, Place n) ∷ (b, Place m) ∷ []

abbrev empty : FileEnv
empty = record { env = []; rules = [] }

abbrev file_env : Pairs → List ℕ → FileEnv
file_env env rules = record { env = env; rules = rules }

-- what a rule that inherits both variables is run under, if each environment that carries rules takes part
abbrev under : (List ℕ → Bool) → List FileEnv → List Pairs
under depends cs = distinct (filter_map (λ (c : FileEnv). cond (depends c.rules && list_all (has_value c.env) (a ∷ b ∷ []))
    (Some (restricted (a ∷ b ∷ []) c.env)) None) cs)

-- the values of two environments are never mixed, equal choices count once, and an environment that lacks a variable doesn't
-- take part
pairs_stay_together : projections [] (0 ∷ []) Always (a ∷ b ∷ [])
    (file_env (both 1 2) (0 ∷ []) ∷ empty ∷ file_env (both 3 4) (0 ∷ []) ∷ file_env (both 1 2) (0 ∷ 1 ∷ []) ∷ [])
    ≡ both 1 2 ∷ both 3 4 ∷ []
pairs_stay_together = ap (λ (j : List ℕ → Bool). under j (file_env (both 1 2) (0 ∷ []) ∷ empty ∷ file_env (both 3 4) (0 ∷ [])
    ∷ file_env (both 1 2) (0 ∷ 1 ∷ []) ∷ [])) (λ i r. judge-Always r (0 ∷ []) [] i)

-- the order is that of first appearance, and not that of the values
in_order : exported (a ∷ []) (both 5 1 ∷ both 2 1 ∷ both 5 3 ∷ []) ≡ ((a, Place 5) ∷ []) ∷ ((a, Place 2) ∷ []) ∷ []
in_order = refl

-- two witnesses of the first rule: each makes a new environment from the empty one
each_its_own : next_file_envs 0 (λ c. Some c.env) (λ env. both 1 2 ∷ both 3 4 ∷ []) first_file_envs
    ≡ file_env (both 1 2) (0 ∷ []) ∷ file_env (both 3 4) (0 ∷ []) ∷ []
each_its_own = refl

-- an environment without a witness stays, and doesn't carry the rule; so does one that takes no part
stays : next_file_envs 1 (λ c. Some c.env) (λ env. []) first_file_envs ≡ first_file_envs
stays = refl

no_part : next_file_envs 1 (λ c. None) (λ env. both 1 2 ∷ []) first_file_envs ≡ first_file_envs
no_part = refl

-- a rule's name is looked up only in the environment, and `ever` in the file: here the environment of the second witness, after
-- a second rule that had a witness only under the first
name_asks_the_environment : judge (0 ∷ []) (0 ∷ 1 ∷ []) [] (Had 1) ≡ false
name_asks_the_environment = judge-Had (0 ∷ []) (0 ∷ 1 ∷ []) [] 1

ever_asks_the_file : judge (0 ∷ []) (0 ∷ 1 ∷ []) [] (Ever 1) ≡ true
ever_asks_the_file = judge-Ever (0 ∷ []) (0 ∷ 1 ∷ []) [] 1
