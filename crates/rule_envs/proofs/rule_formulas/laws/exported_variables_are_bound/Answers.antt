use Rattle.rule_envs.proofs.RuleFormulas.BoundLemmas.{exports_bound}
use Rattle.rule_envs.proofs.rule_formulas.laws.exported_variables_are_bound.Goals as goal

pub returns : goal.returns
returns c = record { bound = exports_bound }
