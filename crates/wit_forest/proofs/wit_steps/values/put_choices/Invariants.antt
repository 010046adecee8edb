use Rattle.std.proofs.Common.{◌≡◌, ◌||◌, take}
use Rattle.std.specs.List.{list_any}
use Rattle.smpl_terms.specs.declared.value.Value.{Value}
use Rattle.smpl_terms.specs.Values.{same}
use Rattle.smpl_terms.specs.Environments.{total}
use Rattle.wit_forest.specs.WitSteps.Choices.{chosen, AllRise}
use Rattle.wit_forest.proofs.wit_steps.values.put_choices.Given as goal

abbrev pub invariant-loop-e : goal.invariant-loop-e
invariant-loop-e l = record {
  values : (z : Value) → list_any (λ u. same u z) l.values.items
      ≡ (list_any (λ u. same u z) l.initial.values.items || chosen l.x (total l.env) (take l.e-index l.entries) z);
  rise : AllRise (take l.e-index l.entries);
}
