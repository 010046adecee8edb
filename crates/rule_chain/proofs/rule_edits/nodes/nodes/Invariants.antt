use Rattle.std.proofs.Common.{◌≡◌, ◌++◌}
use Rattle.rule_chain.specs.RuleEdits.Nodes.{nodes_of}
use Rattle.rule_chain.proofs.RuleEdits.NodeLemmas.{nodes_from}
use Rattle.rule_chain.proofs.rule_edits.nodes.nodes.Given as goal

abbrev pub invariant-loop-i : goal.invariant-loop-i
invariant-loop-i l = l.nodes.items ++ nodes_from l.rule l.graphs.items l.i ≡ nodes_of l.rule l.graphs.items
