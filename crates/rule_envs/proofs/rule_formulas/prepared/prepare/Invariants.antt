use Rattle.rule_envs.proofs.RuleFormulas.PrepareLemmas.{Completes, FirstOfAll}
use Rattle.rule_envs.proofs.rule_formulas.prepared.prepare.Given as goal

abbrev pub invariant-loop-rule : goal.invariant-loop-rule
invariant-loop-rule l = record {
  done : Completes l.patch.rules l.rule-index l.rules;
  faults : FirstOfAll l.patch.rules l.rule-index;
}
