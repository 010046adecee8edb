use Rattle.std.proofs.Common.{◌≡◌, map}
use Rattle.std.specs.List.{flat_map}
use Rattle.rule_chain.specs.FileWitnesses.Lists.{brought}
use Rattle.rule_chain.proofs.file_witnesses.whole.joined.Given as goal

abbrev pub invariant-loop-list : goal.invariant-loop-list
invariant-loop-list l = record {
  witnesses : l.witnesses ≡ flat_map (λ list. list) l.yielded;
  parts : l.parts ≡ map (brought l.exports) l.yielded;
}
