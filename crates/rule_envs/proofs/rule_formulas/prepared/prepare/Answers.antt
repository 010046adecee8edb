use Rattle.std.proofs.Common.{◌≡◌, ◌<◌, ◌+◌, sym, ap, subst, ◌∙◌, arith, rules, [], length, get_or}
use Rattle.std.proofs.lemmas.List.{drop_all, append-nil}
use Rattle.ctl_translate.specs.declared.rule.FormulaFault.TheVariants as fault
use Rattle.rule_envs.specs.RuleFormulas.Prepared as of
use Rattle.rule_envs.proofs.RuleFormulas.PrepareLemmas.{Completes, one_more, later_fault, fault_here}
use Rattle.rule_envs.proofs.rule_formulas.prepared.prepare.Goals as goal

pub returns-in_err-push-clause-fault : goal.returns-in_err-push-clause-fault
returns-in_err-push-clause-fault c =
    let all = c.args.patch.now.rules in
    let i = c.loop-rule.rule-index in
    let one = c.rule-item.result in
    let within : i < length all = omega (arith, ap length c.as_slice-rule-items.ensures) in
    let at : one ≡ get_or all i one = c.rule-item.is ∙ ap (λ rs. get_or rs i one) c.as_slice-rule-items.ensures in
    let stops : of.IsPrepareFault all fault.NoMemory = fault_here all i one within at fault.NoMemory tt c.loop-rule.invariant.faults in
    search (rules, stops)

pub loop-rule-preserved : goal.loop-rule-preserved
loop-rule-preserved c =
    let all = c.args.patch.now.rules in
    let i = c.loop-rule.rule-index in
    let one = c.rule-item.result in
    let p = c.in_ok-prepared_rule.field-0 in
    let within : i < length all = omega (arith, ap length c.as_slice-rule-items.ensures) in
    let at : one ≡ get_or all i one = c.rule-item.is ∙ ap (λ rs. get_or rs i one) c.as_slice-rule-items.ensures in
    record {
      done = subst (λ done. Completes all (i + 1) done) (sym c.in_ok-push.ensures.ok)
          (one_more all i one within at c.loop-rule.rules p c.in_ok-prepared_rule.ensures.rule c.loop-rule.invariant.done);
      faults = later_fault all i one within at p c.in_ok-prepared_rule.ensures.rule c.loop-rule.invariant.faults;
    }

pub returns-clause-rules : goal.returns-clause-rules
returns-clause-rules c =
    let all = c.args.patch.now.rules in
    let past : length all ≡ length c.as_slice-rule-items.result.now = sym (ap length c.as_slice-rule-items.ensures) in
    subst (of.ArePrepared all) (append-nil c.loop-rule.rules)
    (c.loop-rule.invariant.done [] (subst (λ rs. of.ArePrepared rs []) (sym (drop_all c.loop-rule.rule-index all (omega arith))) tt))
