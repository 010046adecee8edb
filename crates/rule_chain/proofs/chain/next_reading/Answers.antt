use Rattle.std.proofs.Common.{◌≡◌, None, Some, ap, subst, arith, length}
use Rattle.std.specs.Prelude.{Option, true, is_some}
use Rattle.std.proofs.lemmas.Result.{err_from_is_err_and}
use Rattle.rule_chain.specs.declared.rule_edits.texts.NewText.{NewText}
use Rattle.rule_chain.specs.Stops.{LeadsOn}
use Rattle.rule_chain.proofs.StopLemmas.{Leading}
use Rattle.rule_chain.proofs.StepLemmas.{step_ended, went_on, left_is, seen_fault, are_told}
use Rattle.rule_chain.proofs.chain.next_reading.Goals as goal

pub returns-in_ok-answer-in-None-clause-step : goal.returns-in_ok-answer-in-None-clause-step
returns-in_ok-answer-in-None-clause-step g c = λ s at.
    let r = c.args.reached in
    let st = c.in_ok-stopped.stopped in
    let on : Leading c.args.rules.now.tidy c.args.rules.now.defined.now c.args.rules.now.patch.now.rules r.done st.done r.file
    r.next r.findings st.findings None
    st.ran =
    subst (λ (t : Option NewText). Leading c.args.rules.now.tidy c.args.rules.now.defined.now c.args.rules.now.patch.now.rules
    r.done st.done r.file r.next r.findings st.findings t
    st.ran)
    c.in-None.is c.in_ok-stopped.ensures.stopped in
    let done : st.done ≡ length c.args.rules.now.patch.now.rules = c.in_ok-stopped.ensures.last c.in-None.is in
    step_ended c.args.rules.now.tidy c.args.rules.now.unread c.args.rules.now.defined.now c.args.rules.now.patch.now.rules r.done st.done s st.findings st.ran
    r.file r.next r on at at.at (omega arith) c.in_ok-skipped.skipped
    (are_told c.args.rules.now.unread c.args.rules.now.patch.now.rules r st.ran c.as_slice.result.now c.in_ok-skipped.skipped
    c.as_slice.ensures c.in_ok-skipped.ensures)
    c.in_ok-answer-in-None.field-0 c.in_ok-answer-in-None.ensures

pub returns-in_ok-go_on-in-Some-clause-step : goal.returns-in_ok-go_on-in-Some-clause-step
returns-in_ok-go_on-in-Some-clause-step g c = λ s at.
    let r = c.args.reached in
    let st = c.in_ok-stopped.stopped in
    let text = c.in-Some.text in
    let on : LeadsOn c.args.rules.now.tidy c.args.rules.now.defined.now c.args.rules.now.patch.now.rules r.done s st.done st.findings (Some text) st.ran =
    subst (λ (t : Option NewText). LeadsOn c.args.rules.now.tidy c.args.rules.now.defined.now c.args.rules.now.patch.now.rules
    r.done s st.done st.findings t st.ran)
    c.in-Some.is (c.in_ok-stopped.ensures.stopped s at.findings at.at) in
    went_on c.args.rules.now.tidy c.args.rules.now.unread c.args.rules.now.defined.now c.args.rules.now.patch.now.rules r.done
    st.done s st.findings st.ran text on
    c.in_ok-go_on-in-Some.field-0
    (c.in_ok-go_on-in-Some.ensures.comes on.state
    (left_is c.args.rules.now.tidy c.args.rules.now.unread c.args.rules.now.defined.now c.args.rules.now.patch.now.rules r.done
    st.done s st.findings st.ran r text at on
    c.in_ok-skipped.skipped
    (are_told c.args.rules.now.unread c.args.rules.now.patch.now.rules r st.ran c.as_slice.result.now c.in_ok-skipped.skipped
    c.as_slice.ensures c.in_ok-skipped.ensures)))

pub returns-in_err-stopped-clause-fault : goal.returns-in_err-stopped-clause-fault
returns-in_err-stopped-clause-fault g c =
    let p = err_from_is_err_and c.from_residual.result c.from_residual.ensures.1 in
    rw (p.1, p.2) (seen_fault c.args.rules.now.tidy c.args.rules.now.unread c.args.rules.now.defined.now c.args.rules.now.patch.now.rules c.args.reached
    c.in_err-stopped.field-0.0 c.in_err-stopped.ensures.fault)

pub returns-in_ok-go_on-in-Some-clause-further : goal.returns-in_ok-go_on-in-Some-clause-further
returns-in_ok-go_on-in-Some-clause-further g c =
    let some : is_some c.in_ok-stopped.stopped.text ≡ true = ap is_some c.in-Some.is in
    c.in_ok-go_on-in-Some.ensures.further c.args.reached.done (c.in_ok-stopped.ensures.on some)
