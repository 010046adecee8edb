use Rattle.std.proofs.Common.{◌≡◌, ◌||◌, ◌-◌, ◌≤◌, length, take}
use Rattle.std.specs.List.{list_any}
use Rattle.smpl_terms.specs.declared.value.Value.{Value}
use Rattle.smpl_terms.specs.Values.{same}
use Rattle.env_sets.specs.Rising.{Rise}
use Rattle.env_sets.proofs.runs.absorbed.Given as goal

abbrev pub invariant-loop-k : goal.invariant-loop-k
invariant-loop-k l = record {
  within : l.k ≤ length l.runs;
  rise : Rise l.all.items;
  meaning : (z : Value) → list_any (λ v. same v z) l.all.items
      ≡ (list_any (λ v. same v z) l.initial.all.items || list_any (λ ws. list_any (λ v. same v z) ws) (take l.k l.runs));
}

abbrev pub decreases-loop-k : goal.decreases-loop-k
decreases-loop-k l = length l.runs - l.k
