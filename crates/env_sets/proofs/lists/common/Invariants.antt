use Rattle.std.proofs.Common.{◌≡◌, ◌&&◌}
use Rattle.smpl_terms.specs.declared.value.Value.{Value}
use Rattle.smpl_terms.specs.Values.{same}
use Rattle.std.specs.List.{list_any}
use Rattle.env_sets.proofs.lists.common.Given as goal

abbrev pub invariant-loop-v : goal.invariant-loop-v
invariant-loop-v l = (z : Value) → list_any (λ v. same v z) l.kept.items ≡ (list_any (λ v. same v z) l.yielded && list_any (λ v. same v z) l.ws)
