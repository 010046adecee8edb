use Rattle.std.proofs.Common.{◌≡◌, ℕ, ◌+◌, ◌-◌, ◌≤◌, [], length, drop, get_or}
use Rattle.rule_chain.specs.RuleWitnesses.Opened.{IsOpen}
use Rattle.rule_chain.proofs.rule_witnesses.values.open_sets.Given as goal

abbrev pub invariant-loop-i : goal.invariant-loop-i
invariant-loop-i l = record {
  len : length l.sets.items ≡ l.i + 1;
  each : (k : ℕ) → k ≤ l.i → IsOpen l.set (drop (length l.vars - k) l.vars) (get_or l.sets.items k []);
}
