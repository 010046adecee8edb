use Rattle.std.proofs.Common.{◌≡◌, true, map}
use Rattle.std.specs.List.{flat_map}
use Rattle.rule_chain.proofs.file_witnesses.under.all_first.Given as goal

abbrev pub invariant-loop-first : goal.invariant-loop-first
invariant-loop-first l = record {
  found : l.all ≡ flat_map (λ first. first.found) l.yielded;
  kept : l.later ≡ true → l.sets.items ≡ map (λ first. first.kept) l.yielded;
}
