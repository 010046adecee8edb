-- What one rule does over one reading of a file, apart from its edits.
use Rattle.std.specs.Prelude.{ℕ, ◌≡◌, false, Bool, Option, List, [], ◌∷◌}
use Rattle.cpp_lines.specs.declared.reading.Item.{Item}
use Rattle.smpl_terms.specs.declared.var.Var.{Var}
use Rattle.smpl_patch.specs.declared.rule.Rule.{Rule}
use Rattle.smpl_patch.specs.declared.witness.RuleWitness.{RuleWitness}
use Rattle.env_parts.specs.Parts.{Pairs, is_among}
use Rattle.rule_envs.specs.declared.file_env.FileEnv.{FileEnv}
use Rattle.rule_envs.specs.Inherited.{inherited_of}
use Rattle.rule_envs.specs.Shares.{share, projections}
use Rattle.rule_envs.specs.FileEnvs as envs
use Rattle.rule_envs.specs.declared.fault.EnvsFault.{EnvsFault}
use Rattle.rule_envs.specs.declared.fault.EnvsFault.TheVariants as envs_faults
use Rattle.rule_chain.specs.declared.rule_witnesses.fault.ItemFault.{ItemFault}
use Rattle.rule_chain.specs.declared.rule_witnesses.fault.ItemFault.TheVariants as job_faults
use Rattle.rule_chain.specs.FileWitnesses.Found as found
use Rattle.rule_chain.specs.declared.rule_matches.fault.MatchFault.{MatchFault}
use Rattle.rule_chain.specs.declared.rule_matches.fault.MatchFault.TheVariants.{TooManyWitnesses, TooManyEnvironments, NoMemory}

-- each of these variables occurs once, and none is inherited
abbrev pub AreApart : List Var → List Var → Type 0
AreApart [] inherited = Unit {0}
AreApart (x ∷ xs) inherited = (is_among inherited x ≡ false) × (is_among xs x ≡ false) × AreApart xs inherited

-- given the names that are defined, the rules that have had a witness, the items and the environments without ids
module _ (defined : List (List ℕ)) (had : List ℕ) (number : ℕ) (rule : Rule) (items : List Item) (file_envs : List FileEnv) where
  abbrev pub rule_share : FileEnv → Option Pairs
  rule_share = share defined had rule.depends (inherited_of rule)

  abbrev pub rule_projections : List Pairs
  rule_projections = projections defined had rule.depends (inherited_of rule) file_envs

  -- its witnesses
  abbrev pub rule_found : List RuleWitness
  rule_found = found.file_witnesses number rule items rule_projections

  abbrev pub has_too_many : Bool
  has_too_many = found.has_too_many number rule items rule_projections

  -- the environments after it
  abbrev pub file_envs_after : List FileEnv
  file_envs_after = envs.next_file_envs number rule_share (found.brings number rule items) file_envs

-- the faults of finding witnesses, and of the environments after them, as those of the rule
abbrev pub job_fault : ItemFault → MatchFault
job_fault job_faults.TooMany = TooManyWitnesses
job_fault job_faults.NoMemory = NoMemory

abbrev pub envs_fault : EnvsFault → MatchFault
envs_fault envs_faults.TooMany = TooManyEnvironments
envs_fault envs_faults.NoMemory = NoMemory
