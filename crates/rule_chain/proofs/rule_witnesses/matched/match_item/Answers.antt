use Rattle.std.proofs.Common.{ℕ, ◌<◌, ap, ◌∙◌, subst, length}
use Rattle.std.specs.List.{filter}
use Rattle.cfg_build.specs.CfgGraph.Flow.{count_of}
use Rattle.env_sets.specs.States.{set_at}
use Rattle.wit_forest.specs.WitTrees.Forest.{numbers}
use Rattle.rule_chain.specs.RuleWitnesses.Matched.{has_entries}
use Rattle.rule_chain.proofs.rule_witnesses.matched.match_item.Goals as goal

pub returns : goal.returns
returns c = record {
  matched = record {
    sets = c.in_ok-sets.ensures;
    nodes = c.in_ok-nodes.ensures.nodes
        ∙ ap (λ (r : ℕ). filter (λ s. has_entries (set_at c.in_ok-sets.sets r s)) (numbers (count_of c.args.g.now.graph.now))) c.root.ensures.root;
  };
  root = subst (λ (n : ℕ). n < length c.args.f.now.nodes) c.root.ensures.root c.root.ensures.within;
}
