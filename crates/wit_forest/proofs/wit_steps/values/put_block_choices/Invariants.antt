use Rattle.std.proofs.Common.{◌≡◌, ◌||◌, take}
use Rattle.std.specs.List.{list_any}
use Rattle.smpl_terms.specs.declared.value.Value.{Value}
use Rattle.smpl_terms.specs.Values.{same}
use Rattle.smpl_terms.specs.Environments.{total}
use Rattle.env_sets.specs.Blocks.{all_entries}
use Rattle.wit_forest.specs.WitSteps.Choices.{chosen, AllRise}
use Rattle.wit_forest.proofs.wit_steps.values.put_block_choices.Given as goal

abbrev pub invariant-loop-block : goal.invariant-loop-block
invariant-loop-block l = record {
  values : (z : Value) → list_any (λ u. same u z) l.values.items
      ≡ (list_any (λ u. same u z) l.initial.values.items || chosen l.x (total l.env) (all_entries (take l.block-index l.blocks)) z);
  rise : AllRise (all_entries (take l.block-index l.blocks));
}
