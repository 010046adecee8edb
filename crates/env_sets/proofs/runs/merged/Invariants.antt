use Rattle.std.proofs.Common.{◌≡◌, ◌++◌, drop}
use Rattle.env_sets.specs.Rising.{Rise}
use Rattle.env_sets.specs.Runs.{with_values}
use Rattle.env_sets.proofs.runs.merged.Given as goal

abbrev pub invariant-loop-v : goal.invariant-loop-v
invariant-loop-v l = record {
  rise : Rise l.rest;
  items : l.out.items ++ with_values (drop l.v-index l.few) l.rest ≡ with_values l.few l.many;
}
