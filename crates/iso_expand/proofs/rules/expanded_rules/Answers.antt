use Rattle.std.proofs.Common.{◌≡◌, sym, subst}
use Rattle.iso_expand.specs.declared.fault.ExpandFault.{ExpandFault}
use Rattle.iso_expand.specs.Patches.{IsFaultOf}
use Rattle.iso_expand.proofs.RuleLemmas.{rules_more, rule_refused}
use Rattle.iso_expand.proofs.rules.expanded_rules.Goals as goal

pub returns-in-Err-clause-fault : goal.returns-in-Err-clause-fault
returns-in-Err-clause-fault c =
    subst (λ (f : ExpandFault). IsFaultOf c.args.isos.now c.args.rules.now f) (sym c.fault_of.ensures)
    (rule_refused c.args.isos.now c.args.rules.now c.loop-n.out c.loop-n.n c.index-rules-n.result c.in-Err.fault c.loop-n-test.true c.index-rules-n.is
    c.loop-n.invariant c.in-Err.ensures.refused)

pub loop-n-preserved : goal.loop-n-preserved
loop-n-preserved c =
    rules_more c.args.isos.now c.args.rules.now c.loop-n.out c.push.new.self c.loop-n.n c.index-rules-n.result c.in-Ok.one c.loop-n-test.true c.index-rules-n.is
    c.in_ok-push-in-Ok.ensures.ok c.in-Ok.ensures.rule c.loop-n.invariant
