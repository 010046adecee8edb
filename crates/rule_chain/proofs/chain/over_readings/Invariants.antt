use Rattle.std.proofs.Common.{◌≤◌, length, drop}
use Rattle.rule_chain.specs.RuleRun.States.{Chained}
use Rattle.rule_chain.specs.Chain.{Outcome, Runs}
use Rattle.rule_chain.specs.Stops.{IsAt}
use Rattle.rule_chain.proofs.chain.over_readings.Given as goal

-- whatever end the remaining rules lead to from here, all rules lead to from the start
abbrev pub invariant-loop-number : goal.invariant-loop-number
invariant-loop-number g l = record {
  on : (s : Chained) → IsAt l.rules.unread l.initial.reached s → (now : Chained) × (IsAt l.rules.unread l.reached now
      × ((end : Outcome) → Runs l.rules.tidy l.rules.defined.now l.reached.done (drop l.reached.done l.rules.patch.now.rules) now end
      → Runs l.rules.tidy l.rules.defined.now 0 (drop 0 l.rules.patch.now.rules) s end));
  far : l.number ≤ l.reached.done;
  within : l.reached.done ≤ length l.rules.patch.now.rules;
  reading : l.reached.reading ≤ l.reached.done;
}
