-- What is required of a patch that is used.
use Rattle.std.specs.Prelude.{◌≡◌, ◌<◌, ◌^◌, List, length}
use Rattle.std.specs.List.{AllZip}
use Rattle.smpl_patch.specs.declared.rule.Patch.{Patch}
use Rattle.ctl_translate.specs.declared.rule.FormulaFault.{FormulaFault}
use Rattle.ctl_translate.specs.declared.rule.FormulaFault.TheVariants as fault
use Rattle.rule_envs.specs.declared.rule_formulas.prepared.PreparedRule.{PreparedRule}
use Rattle.rule_envs.specs.RuleFormulas.Prepared.{ArePrepared, IsPrepareFault}
use Rattle.rule_chain.specs.Required.{MayRun}

-- Each rule has a formula that may be used, so preparing the rules fails only when out of memory; and each rule may run when
-- prepared.
pub record IsUsable (patch : Patch) : Type 0 where
  pub few : length patch.rules < 2 ^ 32
  pub formulas : (f : FormulaFault) → IsPrepareFault patch.rules f → f ≡ fault.NoMemory
  pub may : (made : List PreparedRule) → ArePrepared patch.rules made → AllZip MayRun patch.rules made
