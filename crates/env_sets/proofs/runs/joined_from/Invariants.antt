use Rattle.std.proofs.Common.{◌≡◌, ◌<◌, List, length, drop}
use Rattle.smpl_terms.specs.declared.value.Value.{Value}
use Rattle.env_sets.specs.Rising.{Rise}
use Rattle.env_sets.specs.Runs.{with_values, all_of}
use Rattle.env_sets.proofs.runs.joined_from.Given as goal

abbrev pub invariant-loop-i : goal.invariant-loop-i
invariant-loop-i l = record {
  within : l.i < length l.runs;
  rise : Rise l.all.items;
  items : (vs : List Value) → all_of vs (drop l.i l.runs) ≡ with_values vs l.all.items;
}

abbrev pub decreases-loop-i : goal.decreases-loop-i
decreases-loop-i l = l.i
