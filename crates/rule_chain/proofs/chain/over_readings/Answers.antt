use Rattle.std.proofs.Common.{◌≡◌, ◌≤◌, ◌<◌, ◌+◌, subst, arith, length}
use Rattle.std.proofs.lemmas.Result.{err_from_is_err_and}
use Rattle.rule_chain.specs.RuleRun.States.{Chained}
use Rattle.rule_chain.specs.declared.state.Step.{Step}
use Rattle.rule_chain.specs.declared.state.Step.TheVariants.{On}
use Rattle.rule_chain.specs.Stops.{IsAt, Steps, IsFurther}
use Rattle.rule_chain.proofs.StepLemmas.{comes_on, comes_to, comes_out, comes_short}
use Rattle.rule_chain.proofs.chain.over_readings.Goals as goal

pub loop-number-preserved : goal.loop-number-preserved
loop-number-preserved g c =
    let r = c.loop-number.reached in
    let further : IsFurther r.done (length c.args.rules.now.patch.now.rules) r.reading (On c.in-On.next) =
    subst (IsFurther r.done (length c.args.rules.now.patch.now.rules) r.reading) c.in-On.is c.in_ok-came.ensures.further in
    let on : r.done < c.in-On.next.done = further.0 in
    let within : c.in-On.next.done ≤ length c.args.rules.now.patch.now.rules = further.1 in
    let reading : c.in-On.next.reading ≡ r.reading + 1 = further.2 in
    record {
      on = comes_on c.args.rules.now.tidy c.args.rules.now.unread c.args.rules.now.defined.now c.args.rules.now.patch.now.rules c.args.reached r c.in-On.next 0
          c.loop-number.invariant.on
          (subst (λ (st : Step). (s : Chained) → IsAt c.args.rules.now.unread r s
          → Steps c.args.rules.now.tidy c.args.rules.now.unread c.args.rules.now.defined.now c.args.rules.now.patch.now.rules
          r.done s st) c.in-On.is c.in_ok-came.ensures.step);
      far = omega arith;
      within = within;
      reading = omega arith;
    }

pub returns-in-Ended-clause-done : goal.returns-in-Ended-clause-done
returns-in-Ended-clause-done g c =
    let r = c.loop-number.reached in
    comes_to c.args.rules.now.tidy c.args.rules.now.unread c.args.rules.now.defined.now c.args.rules.now.patch.now.rules c.args.reached r 0 c.in-Ended.applied
    c.loop-number.invariant.on
    (subst (λ (st : Step). (s : Chained) → IsAt c.args.rules.now.unread r s
    → Steps c.args.rules.now.tidy c.args.rules.now.unread c.args.rules.now.defined.now c.args.rules.now.patch.now.rules r.done s
    st) c.in-Ended.is c.in_ok-came.ensures.step)

pub returns-clause-done : goal.returns-clause-done
returns-clause-done g c =
    let all : length c.args.rules.now.patch.now.rules ≤ c.loop-number.reached.done = omega (arith, c.count-count.ensures.count) in
    comes_out c.args.rules.now.tidy c.args.rules.now.unread c.args.rules.now.defined.now c.args.rules.now.patch.now.rules c.args.reached c.loop-number.reached 0
    c.in_ok-answer.field-0
    c.loop-number.invariant.on all c.in_ok-answer.ensures

pub returns-in_err-came-clause-fault : goal.returns-in_err-came-clause-fault
returns-in_err-came-clause-fault g c =
    let p = err_from_is_err_and c.from_residual.result c.from_residual.ensures.1 in
    rw (p.1, p.2) (comes_short c.args.rules.now.tidy c.args.rules.now.unread c.args.rules.now.defined.now
    c.args.rules.now.patch.now.rules c.args.reached c.loop-number.reached 0
    c.in_err-came.field-0.0
    c.loop-number.invariant.on c.in_err-came.ensures.fault)
