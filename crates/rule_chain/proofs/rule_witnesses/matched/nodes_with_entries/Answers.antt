use Rattle.std.proofs.Common.{◌≡◌, ℕ, ap, ◌∙◌, arith}
use Rattle.std.specs.List.{filter}
use Rattle.cfg_build.specs.CfgGraph.Flow.{count_of}
use Rattle.wit_forest.specs.WitTrees.Forest.{numbers}
use Rattle.env_sets.specs.States.{set_at}
use Rattle.rule_chain.specs.RuleWitnesses.Matched.{has_entries}
use Rattle.rule_chain.proofs.RuleWitnesses.MatchLemmas.{node_next}
use Rattle.rule_chain.proofs.rule_witnesses.matched.nodes_with_entries.Goals as goal

pub loop-s-preserved : goal.loop-s-preserved
loop-s-preserved c =
    node_next (λ s. has_entries (set_at c.args.sets.now c.args.part s)) c.loop-s.nodes c.in_ok-nodes.nodes c.loop-s.s (has_entries c.at.result.now)
    c.loop-s.invariant c.in_ok-nodes.ensures.nodes (ap has_entries c.at.ensures.set)

pub returns : goal.returns
returns c =
    let end : c.loop-s.s ≡ count_of c.args.g.now = omega (arith, c.count-s-end.ensures.value) in
    record {
      nodes = c.loop-s.invariant ∙ ap (λ (n : ℕ). filter (λ s. has_entries (set_at c.args.sets.now c.args.part s)) (numbers n)) end;
    }
