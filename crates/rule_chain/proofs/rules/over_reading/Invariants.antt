use Rattle.std.proofs.Common.{◌≡◌, None}
use Rattle.rule_chain.specs.RuleRun.States.{Chained}
use Rattle.rule_chain.specs.RuleRun.Outcomes.{AreFindingsOf, IsAtReading}
use Rattle.rule_chain.specs.Stops.{LeadsOn}
use Rattle.rule_chain.proofs.rules.over_reading.Given as goal

abbrev pub invariant-loop-number : goal.invariant-loop-number
invariant-loop-number g l = record {
  items : l.graphs.items ≡ l.reading.file.now.items;
  on : (s : Chained) → AreFindingsOf l.initial.findings s → IsAtReading l.reading.file.now l.reading.next s
      → LeadsOn l.rules.tidy l.rules.defined.now l.rules.patch.now.rules l.from s l.number l.findings None l.ran;
}
