use Rattle.std.proofs.Common.{◌≡◌, ◌⊎◌, ◌+◌, ℕ, Bool, List, inl, inr, subst, drop}
use Rattle.std.proofs.lemmas.Result.{IfOk-weaker, IfErr-weaker}
use Rattle.rule_chain.specs.RuleRun.States.{Chained}
use Rattle.rule_chain.specs.RuleRun.Tidied.{IsFaultBy}
use Rattle.rule_chain.specs.RuleRun.Outcomes.{AreFindingsOf, IsAtReading, IsOutcomeBy}
use Rattle.rule_chain.specs.declared.rule_run.fault.FileFault.TheVariants as fault
use Rattle.rule_chain.specs.Chain.{Runs, Refused}
use Rattle.rule_chain.specs.Stops.{LeadsOn, ran_number}
use Rattle.rule_chain.proofs.RunLemmas.{leads, refuses}
use Rattle.rule_chain.proofs.rules.run_at.Goals as goal

pub returns-clause-outcome : goal.returns-clause-outcome
returns-clause-outcome g c =
    let tidy = c.args.rules.now.tidy in
    let defined = c.args.rules.now.defined.now in
    let rules = c.args.rules.now.patch.now.rules in
    let number = c.args.number in
    let ready = c.at-ready.result in
    let rule = ready.rule.now in
    let file = c.args.reading.now.file.now in
    let next = c.args.reading.now.next in
    let findings = c.args.findings in
    IfOk-weaker c.run_rule.result
    (λ w. (s : Chained) → AreFindingsOf findings s → IsAtReading file next s
    → IsOutcomeBy ready.tidy ready.defined.now ready.number rule s w.findings w.text w.ran)
    (λ w. (s : Chained) → AreFindingsOf findings s → IsAtReading file next s
    → LeadsOn tidy defined rules number s (number + 1) w.findings w.text (ran_number w.ran number))
    (λ w h s are at.
    leads tidy defined rules number rule c.requires.within c.at-ready.ensures.rule file next s w.findings w.text w.ran at
    (subst (λ (t : Bool). IsOutcomeBy t defined number rule s w.findings w.text w.ran) c.at-ready.ensures.tidy
    (subst (λ (d : List (List ℕ)). IsOutcomeBy ready.tidy d number rule s w.findings w.text w.ran) c.at-ready.ensures.defined
    (subst (λ (n : ℕ). IsOutcomeBy ready.tidy ready.defined.now n rule s w.findings w.text w.ran) c.at-ready.ensures.number (h s are at)))))
    c.run_rule.ensures.outcome

pub returns-clause-fault : goal.returns-clause-fault
returns-clause-fault g c =
    let tidy = c.args.rules.now.tidy in
    let defined = c.args.rules.now.defined.now in
    let rules = c.args.rules.now.patch.now.rules in
    let number = c.args.number in
    let ready = c.at-ready.result in
    let rule = ready.rule.now in
    let file = c.args.reading.now.file.now in
    let next = c.args.reading.now.next in
    let findings = c.args.findings in
    IfErr-weaker c.run_rule.result
    (λ f. (f ≡ fault.NoMemory) ⊎ ((s : Chained) → AreFindingsOf findings s → IsAtReading file next s
    → IsFaultBy ready.tidy ready.defined.now ready.number rule s f))
    (λ f. (f ≡ fault.NoMemory) ⊎ ((s : Chained) → AreFindingsOf findings s → IsAtReading file next s
    → Runs tidy defined number (drop number rules) s (Refused f)))
    (λ f h. elim h [
      | inl none ↦ inl none
      | inr is ↦ inr (λ s are at. refuses tidy defined rules number rule c.requires.within c.at-ready.ensures.rule s f
          (subst (λ (t : Bool). IsFaultBy t defined number rule s f) c.at-ready.ensures.tidy
          (subst (λ (d : List (List ℕ)). IsFaultBy ready.tidy d number rule s f) c.at-ready.ensures.defined
          (subst (λ (n : ℕ). IsFaultBy ready.tidy ready.defined.now n rule s f) c.at-ready.ensures.number (is s are at)))))
    ]) c.run_rule.ensures.fault
