use Rattle.std.proofs.Common.{◌≡◌, map, take}
use Rattle.std.specs.List.{flat_map}
use Rattle.rule_chain.specs.RuleWitnesses.Bare.{bare_witness}
use Rattle.rule_chain.specs.RuleWitnesses.Jobs.{witnesses_at}
use Rattle.rule_chain.proofs.rule_witnesses.job.item_witnesses.Given as goal

abbrev pub invariant-loop-s : goal.invariant-loop-s
invariant-loop-s l = map bare_witness l.found.witnesses
    ≡ map bare_witness (flat_map (λ s. witnesses_at l.query.f.now l.g.graph.now l.query.exports.now l.query.number l.item s
    l.env) (take l.s-index l.matched.nodes))
