use Rattle.std.proofs.Common.{◌≡◌}
use Rattle.std.specs.List.{filter}
use Rattle.env_sets.specs.States.{set_at}
use Rattle.wit_forest.specs.WitTrees.Forest.{numbers}
use Rattle.rule_chain.specs.RuleWitnesses.Matched.{has_entries}
use Rattle.rule_chain.proofs.rule_witnesses.matched.nodes_with_entries.Given as goal

abbrev pub invariant-loop-s : goal.invariant-loop-s
invariant-loop-s l = l.nodes ≡ filter (λ s. has_entries (set_at l.sets l.part s)) (numbers l.s)
