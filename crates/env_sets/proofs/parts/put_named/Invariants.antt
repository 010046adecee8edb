use Rattle.std.proofs.Common.{◌≡◌, ◌||◌, not, false, take}
use Rattle.smpl_terms.specs.declared.value.Value.{Value}
use Rattle.smpl_terms.specs.Values.{same}
use Rattle.std.specs.List.{list_any}
use Rattle.env_sets.specs.Splits.{is_unnamed}
use Rattle.env_sets.proofs.parts.put_named.Given as goal

abbrev pub invariant-loop-p : goal.invariant-loop-p
invariant-loop-p l = (z : Value) → list_any (λ v. same v z) l.out.items ≡ false
    → (list_any (λ v. same v z) l.initial.out.items || not (is_unnamed l.x z (take l.p-index l.p-items))) ≡ false
