use Rattle.std.proofs.Common.{◌≡◌, take}
use Rattle.std.specs.List.{list_any}
use Rattle.smpl_terms.specs.declared.value.Value.{Value}
use Rattle.smpl_terms.specs.Values.{same}
use Rattle.env_sets.proofs.same.same_slices.Given as goal

abbrev pub invariant-loop-i : goal.invariant-loop-i
invariant-loop-i l = (z : Value) → list_any (λ v. same v z) (take l.i l.vs) ≡ list_any (λ w. same w z) (take l.i l.ws)
