use Rattle.std.proofs.Common.{◌≡◌, length}
use Rattle.env_sets.specs.Sets.{Entries}
use Rattle.env_sets.specs.Splits.{AreRestrictions}
use Rattle.env_sets.proofs.PartLemmas.{Halfway}
use Rattle.env_sets.proofs.parts.put_where_allowed.Given as goal

abbrev pub invariant-loop-k : goal.invariant-loop-k
invariant-loop-k l = record {
  count : length l.parts ≡ length l.values;
  meaning : (es : Entries) → AreRestrictions l.x l.values es l.initial.parts → Halfway l.x l.values es l.e l.k l.parts;
}
