use Rattle.std.proofs.Common.{◌≡◌, ◌||◌, take}
use Rattle.std.specs.List.{list_any}
use Rattle.smpl_terms.specs.declared.value.Value.{Value}
use Rattle.smpl_terms.specs.Values.{same}
use Rattle.env_sets.proofs.excluded.put_runs.Given as goal

abbrev pub invariant-loop-run : goal.invariant-loop-run
invariant-loop-run l = (z : Value) → list_any (λ v. same v z) l.out.items
    ≡ (list_any (λ v. same v z) l.initial.out.items || list_any (λ ws. list_any (λ v. same v z) ws) (take l.run-index l.runs))
