use Rattle.std.proofs.Common.{◌≡◌, true, false, take}
use Rattle.smpl_terms.specs.declared.value.Value.{Value}
use Rattle.smpl_terms.specs.Values.{same}
use Rattle.std.specs.List.{list_any}
use Rattle.env_sets.specs.Splits.{none_named}
use Rattle.env_sets.proofs.parts.named.Given as goal

abbrev pub invariant-loop-e : goal.invariant-loop-e
invariant-loop-e l = (z : Value) → list_any (λ v. same v z) l.values.items ≡ false → none_named l.x z (take l.e-index l.a) ≡ true
