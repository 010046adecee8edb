use Rattle.std.proofs.Common.{◌≡◌, Bool, true, length, take}
use Rattle.smpl_terms.specs.declared.value.Value.{Value}
use Rattle.smpl_terms.specs.Values.{same}
use Rattle.std.specs.List.{list_any, list_all}
use Rattle.env_sets.specs.Rising.{Rise}
use Rattle.env_sets.proofs.values.without_repeats.Given as goal

abbrev pub invariant-loop-v : goal.invariant-loop-v
invariant-loop-v l = record {
  meaning : (z : Value) → list_any (λ v. same v z) l.kept.items ≡ list_any (λ v. same v z) l.yielded;
  among : (q : Value → Bool) → list_all q (take (length l.yielded) l.fn.values.items) ≡ true → list_all q l.kept.items ≡ true;
  rise : Rise l.kept.items;
}
