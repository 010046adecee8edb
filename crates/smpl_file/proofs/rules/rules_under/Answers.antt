use Rattle.std.proofs.Common.{arith}
use Rattle.std.proofs.lemmas.Result.{err_from_is_err_and}
use Rattle.smpl_file.proofs.RuleLemmas.{rules-step, rules-all, rule-fault}
use Rattle.smpl_file.proofs.rules.rules_under.Goals as goal

pub loop-i-preserved : goal.loop-i-preserved
loop-i-preserved c =
    rules-step c.args.text.now c.args.heads.now.heads c.args.known.now c.loop-i.i c.loop-i.rules c.push.new.self
    c.in_ok-rule.rule c.requires.heads (omega arith)
    c.in_ok-push.ensures.ok c.in_ok-rule.ensures.read c.loop-i.invariant

pub returns-clause-rules : goal.returns-clause-rules
returns-clause-rules c =
    rules-all c.args.text.now c.args.heads.now.heads c.args.known.now c.loop-i.i c.loop-i.rules c.requires.heads (omega arith) c.loop-i.invariant

pub returns-in_err-rule-clause-fault : goal.returns-in_err-rule-clause-fault
returns-in_err-rule-clause-fault c =
    let p = err_from_is_err_and c.from_residual.result c.from_residual.ensures.1 in
    rw (p.1, p.2)
    (rule-fault c.args.text.now c.args.heads.now.heads c.args.known.now c.loop-i.i c.loop-i.rules c.in_err-rule.field-0.0
    c.requires.heads (omega arith) c.requires.known
    c.loop-i.invariant c.in_err-rule.ensures.fault)
