use Rattle.std.proofs.Common.{◌≡◌, ◌||◌, take}
use Rattle.std.specs.List.{list_any}
use Rattle.smpl_terms.specs.declared.value.Value.{Value}
use Rattle.smpl_terms.specs.Values.{same}
use Rattle.env_sets.proofs.excluded.put_lacking.Given as goal

abbrev pub invariant-loop-v : goal.invariant-loop-v
invariant-loop-v l = (z : Value) → (list_any (λ v. same v z) l.values || list_any (λ v. same v z) l.out.items)
    ≡ ((list_any (λ v. same v z) l.values || list_any (λ v. same v z) l.initial.out.items) || list_any (λ v. same v z) (take l.v-index l.items))
