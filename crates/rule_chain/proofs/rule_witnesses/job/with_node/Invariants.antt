use Rattle.std.proofs.Common.{◌≡◌, [], ◌++◌, map, take}
use Rattle.rule_chain.specs.RuleWitnesses.Bare.{bare_witness}
use Rattle.rule_chain.specs.RuleWitnesses.Jobs.{witness_at}
use Rattle.rule_chain.proofs.rule_witnesses.job.with_node.Given as goal

abbrev pub invariant-loop-e : goal.invariant-loop-e
invariant-loop-e l = map bare_witness l.found.witnesses
    ≡ map bare_witness (l.initial.found.witnesses
    ++ map (witness_at l.query.f.now l.place.g.now [] l.query.number l.place.item l.place.node) (take l.e-index l.e-items))
