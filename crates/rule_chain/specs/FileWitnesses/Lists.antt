-- What is found under several environments, a list for each.
use Rattle.std.specs.Prelude.{ℕ, ◌≡◌, ◌<◌, Bool, true, false, List, [], map, length, slice_index_or}
use Rattle.smpl_patch.specs.declared.witness.RuleWitness.{RuleWitness}
use Rattle.env_parts.specs.Parts.{Pairs, bare_env}
use Rattle.cpp_lines.specs.declared.reading.Item.{Item}
use Rattle.smpl_patch.specs.declared.rule.Rule.{Rule}
use Rattle.smpl_terms.specs.declared.var.Var.{Var}
use Rattle.rule_chain.specs.RuleWitnesses.Bare.{bare_witness}
use Rattle.rule_envs.specs.FileEnvs as envs
use Rattle.rule_chain.specs.FileWitnesses.Found.{found_under}

-- the environment with this number, without ids
abbrev pub env_at : List Pairs → ℕ → Pairs
env_at envs k = bare_env (slice_index_or envs k [])

-- the elements of the list with this number, without ids
abbrev pub found_at : List (List RuleWitness) → ℕ → List RuleWitness
found_at lists k = map bare_witness (slice_index_or lists k [])

-- under none of the environments do the witnesses have too many touches and binds
abbrev pub AreSmall : (Pairs → Bool) → List Pairs → Type 0
AreSmall is_large envs = (k : ℕ) → k < length envs → is_large (env_at envs k) ≡ false

-- under one of them they do
abbrev pub IsLargeSomewhere : (Pairs → Bool) → List Pairs → Type 0
IsLargeSomewhere is_large envs = (k : ℕ) × ((k < length envs) × (is_large (env_at envs k) ≡ true))

-- each list has what is found in all items under its environment
pub record AreFound (number : ℕ) (rule : Rule) (items : List Item) (envs : List Pairs) (lists : List (List RuleWitness)) : Type 0 where
  pub count : length lists ≡ length envs
  pub each : (k : ℕ) → k < length envs → found_at lists k ≡ found_under number rule items (env_at envs k)

-- the distinct values of the exported variables in a list
abbrev pub brought : List Var → List RuleWitness → List Pairs
brought exports list = envs.exported exports (map (λ w. w.env) list)
