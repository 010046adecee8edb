use Rattle.std.proofs.Common.{◌≡◌, Bool, ◌||◌, sym, ap, ◌∙◌, subst, List, [], ◌++◌}
use Rattle.std.specs.List.{list_any}
use Rattle.smpl_terms.specs.declared.var.Var.{Var}
use Rattle.smpl_terms.specs.declared.value.Value.{Value}
use Rattle.smpl_terms.specs.Values.{same}
use Rattle.smpl_terms.specs.Environments.{Environment, total}
use Rattle.env_sets.specs.Sets.{Entries}
use Rattle.env_sets.specs.Blocks.{all_entries}
use Rattle.wit_forest.specs.WitSteps.Choices.{chosen, AllRise}
use Rattle.wit_forest.proofs.WitSteps.ChoiceLemmas.{rise_both, chosen_both}
use Rattle.wit_forest.proofs.wit_steps.values.values_in.Goals as goal

-- the values of the first entries, and then of those in blocks
parts_chosen : (x : Var) (env : Environment) (set first : Entries) (blocks : List Entries) (start : List Value) (mid end : Bool) (z : Value)
    → start ≡ [] → mid ≡ (list_any (λ u. same u z) start || chosen x env first z)
    → end ≡ (mid || chosen x env (all_entries blocks) z) → first ++ all_entries blocks ≡ set → end ≡ chosen x env set z
parts_chosen x env set first blocks start mid end z none e f is =
    f ∙ ap (λ b. b || chosen x env (all_entries blocks) z) (e ∙ ap (λ vs. list_any (λ u. same u z) vs || chosen x env first z) none)
    ∙ sym (chosen_both x env first (all_entries blocks) z)
    ∙ ap (λ es. chosen x env es z) is

pub returns-clause-values : goal.returns-clause-values
returns-clause-values c = λ z.
    parts_chosen c.args.x.now (total c.args.env.now) c.args.set.now c.blocks-2.result.0.now c.blocks-2.result.1.now c.new-values.result.items _ _ z
    c.new-values.ensures.items (c.in_ok-put_choices.ensures.values z) (c.in_ok-put_block_choices.ensures.values z) c.blocks-2.ensures.entries

pub returns-clause-rise : goal.returns-clause-rise
returns-clause-rise c =
    subst AllRise c.blocks-2.ensures.entries
    (rise_both c.blocks-2.result.0.now (all_entries c.blocks-2.result.1.now) c.in_ok-put_choices.ensures.rise c.in_ok-put_block_choices.ensures.rise)
