use Rattle.std.proofs.Common.{◌<◌, arith, length}
use Rattle.rule_chain.proofs.RuleWitnesses.ExtendLemmas.{extended_next}
use Rattle.rule_chain.proofs.rule_witnesses.values.extended.Goals as goal

pub loop-e-preserved : goal.loop-e-preserved
loop-e-preserved c =
    let lt : c.loop-e.e-index < length c.args.envs.now = omega arith in
    extended_next c.args.set.now c.args.x.now c.args.envs.now c.loop-e.e-index c.e-item.result c.loop-e.more.items c.put_extended.new.found.items
    lt c.e-item.is c.loop-e.invariant c.in_ok-put_extended.ensures
