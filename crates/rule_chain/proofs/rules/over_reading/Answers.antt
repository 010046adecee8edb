use Rattle.std.proofs.Common.{◌≡◌, None, Some, ◌∙◌, sym, subst, arith, List}
use Rattle.std.specs.Prelude.{ℕ}
use Rattle.std.proofs.lemmas.Result.{err_from_is_err_and}
use Rattle.rule_chain.specs.Stops.{LeadsOn}
use Rattle.rule_chain.proofs.StopLemmas.{stays, after, stops_at, Leading}
use Rattle.rule_chain.proofs.rules.over_reading.Goals as goal

pub loop-number-init : goal.loop-number-init
loop-number-init g c = record {
  items = c.in_ok-graphs.ensures.items;
  on = λ s are at.
      subst (λ (x : List ℕ). LeadsOn c.args.rules.now.tidy c.args.rules.now.defined.now c.args.rules.now.patch.now.rules
      c.args.from s c.args.from c.args.findings None x)
      (sym c.new-ran.ensures) (stays c.args.rules.now.tidy c.args.rules.now.defined.now c.args.rules.now.patch.now.rules c.args.from s c.args.findings are);
}

pub loop-number-preserved : goal.loop-number-preserved
loop-number-preserved g c = record {
  items = c.run_at.ensures.items ∙ c.loop-number.invariant.items;
  on = after c.args.rules.now.tidy c.args.rules.now.defined.now c.args.rules.now.patch.now.rules c.args.from c.loop-number.number c.args.reading.now.file.now
      c.args.reading.now.next c.args.findings c.loop-number.findings c.in_ok-outcome.outcome.findings c.in_ok-outcome.outcome.text None
      c.loop-number.ran c.in_ok-ran.ran c.in_ok-outcome.outcome.ran c.in-None.is c.in_ok-ran.ensures c.loop-number.invariant.on
      c.in_ok-outcome.ensures.outcome;
}

pub returns-in-Some-clause-stopped : goal.returns-in-Some-clause-stopped
returns-in-Some-clause-stopped g c =
    after c.args.rules.now.tidy c.args.rules.now.defined.now c.args.rules.now.patch.now.rules c.args.from c.loop-number.number c.args.reading.now.file.now
    c.args.reading.now.next c.args.findings c.loop-number.findings c.in_ok-outcome.outcome.findings c.in_ok-outcome.outcome.text (Some c.in-Some.text)
    c.loop-number.ran c.in_ok-ran.ran c.in_ok-outcome.outcome.ran c.in-Some.is c.in_ok-ran.ensures c.loop-number.invariant.on
    c.in_ok-outcome.ensures.outcome

pub returns-in_err-outcome-clause-fault : goal.returns-in_err-outcome-clause-fault
returns-in_err-outcome-clause-fault g c =
    let p = err_from_is_err_and c.from_residual-in_err-outcome.result c.from_residual-in_err-outcome.ensures.1 in
    rw (p.1, p.2) (stops_at c.args.rules.now.tidy c.args.rules.now.defined.now c.args.rules.now.patch.now.rules c.args.from c.loop-number.number
    c.args.reading.now.file.now c.args.reading.now.next c.args.findings
    c.loop-number.findings c.loop-number.ran c.in_err-outcome.field-0.0 c.loop-number.invariant.on c.in_err-outcome.ensures.fault)

pub returns-clause-stopped : goal.returns-clause-stopped
returns-clause-stopped g c =
    let end : c.loop-number.number ≡ c.count-count.result = omega (arith, c.count-count.ensures.count) in
    subst (λ (n : ℕ). Leading c.args.rules.now.tidy c.args.rules.now.defined.now c.args.rules.now.patch.now.rules c.args.from n
    c.args.reading.now.file.now c.args.reading.now.next c.args.findings c.loop-number.findings None c.loop-number.ran)
    end c.loop-number.invariant.on
