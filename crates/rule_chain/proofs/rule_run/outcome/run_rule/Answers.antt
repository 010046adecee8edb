use Rattle.rule_chain.proofs.RuleRun.OutcomeLemmas.{rule_works, edits_stop, matches_stop}
use Rattle.rule_chain.proofs.rule_run.outcome.run_rule.Goals as goal

pub returns-in-Err-clause-fault : goal.returns-in-Err-clause-fault
returns-in-Err-clause-fault g c =
    matches_stop c.args.ready.now.defined.now c.args.ready.now.number c.args.ready.now.rule.now c.args.reading.now.file.now
    c.args.reading.now.next c.args.findings
    c.as_slice.result.now c.args.graphs.now.items c.as_slice-2.result.now c.as_slice.ensures c.requires.items c.as_slice-2.ensures
    c.args.ready.now.tidy c.in-Err.fault c.of_matches.result c.of_matches.ensures (λ h. c.in-Err.ensures.too_many (cc h))
    (λ h. c.in-Err.ensures.too_many_environments (cc h))

pub returns-in-Err-text_after-clause-fault : goal.returns-in-Err-text_after-clause-fault
returns-in-Err-text_after-clause-fault g c =
    edits_stop c.args.ready.now.defined.now c.args.ready.now.number c.args.ready.now.rule.now c.args.reading.now.file.now
    c.args.reading.now.next c.args.findings
    c.as_slice.result.now c.args.graphs.now.items c.as_slice-2.result.now c.as_slice.ensures c.requires.items c.as_slice-2.ensures
    c.args.ready.now.tidy c.in-Ok.matches.witnesses c.as_slice-witnesses.result.now c.in-Ok.matches.file_envs
    c.in-Err-text_after.fault c.of_edits.result c.of_edits.ensures
    c.in-Ok.ensures.few c.in-Ok.ensures.found c.in-Ok.ensures.file_envs c.in-Ok.ensures.few_environments c.as_slice-witnesses.ensures
    c.in-Err-text_after.ensures.fault

pub returns-clause-outcome : goal.returns-clause-outcome
returns-clause-outcome g c =
    rule_works c.args.ready.now.defined.now c.args.ready.now.number c.args.ready.now.rule.now c.args.reading.now.file.now
    c.args.reading.now.next c.args.findings
    c.as_slice.result.now c.args.graphs.now.items c.as_slice-2.result.now c.as_slice.ensures c.requires.items c.as_slice-2.ensures
    c.args.ready.now.tidy c.in-Ok.matches.witnesses c.as_slice-witnesses.result.now c.in-Ok.matches.file_envs c.in_ok-left.left
    c.in-Ok-text_after.text c.in-Ok.matches.ran
    c.in-Ok.ensures.few c.in-Ok.ensures.found c.in-Ok.ensures.file_envs c.in-Ok.ensures.few_environments c.as_slice-witnesses.ensures
    c.in-Ok-text_after.ensures.text c.in_ok-left.ensures.file_envs c.in_ok-left.ensures.had c.in_ok-left.ensures.found c.in-Ok.ensures.ran
