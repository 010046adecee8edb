use Rattle.std.proofs.Common.{take}
use Rattle.rule_chain.specs.RuleWitnesses.Extended.{AreExtended}
use Rattle.rule_chain.proofs.rule_witnesses.values.extended.Given as goal

abbrev pub invariant-loop-e : goal.invariant-loop-e
invariant-loop-e l = AreExtended l.set l.x (take l.e-index l.envs) l.more.items
