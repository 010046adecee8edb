-- What the chain returns for a file.
use Rattle.std.specs.Prelude.{◌≡◌, ◌⊎◌, ℕ, Bool, List, map, Result, Ok, Err}
use Rattle.smpl_patch.specs.declared.rule.Rule.{Rule}
use Rattle.env_parts.specs.Parts.{bare_env}
use Rattle.rule_chain.specs.RuleWitnesses.Bare.{bare_witness}
use Rattle.rule_chain.specs.declared.state.Applied.{Applied}
use Rattle.rule_chain.specs.declared.rule_run.fault.FileFault.{FileFault}
use Rattle.rule_chain.specs.declared.rule_run.fault.FileFault.TheVariants.{NoMemory}
use Rattle.run_choices.specs.declared.unread.Unread.{Unread}
use Rattle.rule_chain.specs.RuleRun.States.{Chained, told_notes}
use Rattle.rule_chain.specs.Chain.{Done, Refused}
use Rattle.rule_chain.specs.Passed.{EndsBy}

-- what is returned of the last state: the text, the witnesses, the notes on skipped items that are told, and the environments
pub record AnswersState (choice : Unread) (applied : Applied) (s : Chained) : Type 0 where
  pub bytes : applied.bytes.items ≡ s.page.bytes
  pub witnesses : map bare_witness applied.witnesses ≡ s.found
  pub skipped : applied.skipped ≡ told_notes choice s
  pub envs : map bare_env applied.envs ≡ map (λ c. c.env) s.file_envs

-- The rules end with a last state, which is returned; or they end at the first fault, which is returned; or memory ran out.
abbrev pub IsResult : (tidy : Bool) → Unread → List Rule → List (List ℕ) → List ℕ → Result Applied FileFault → Type 0
IsResult tidy choice rules defined bytes (Ok applied) =
    (s : Chained) × (EndsBy tidy choice rules defined bytes (Done s) × AnswersState choice applied s)
IsResult tidy choice rules defined bytes (Err fault) = (fault ≡ NoMemory) ⊎ EndsBy tidy choice rules defined bytes (Refused fault)
