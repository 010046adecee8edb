use Rattle.std.proofs.Common.{◌≡◌, ◌++◌, map, take}
use Rattle.smpl_terms.specs.Vars.{with_pair}
use Rattle.rule_chain.proofs.rule_witnesses.values.put_extended.Given as goal

abbrev pub invariant-loop-v : goal.invariant-loop-v
invariant-loop-v l = l.found.items ≡ l.initial.found.items ++ map (with_pair l.env l.x) (take l.v-index l.v-items)
