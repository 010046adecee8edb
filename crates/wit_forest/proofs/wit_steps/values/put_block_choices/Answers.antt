use Rattle.std.proofs.Common.{◌≡◌, ℕ, suc, ◌<◌, Bool, true, false, ◌||◌, refl, sym, ap, ◌∙◌, subst, arith, List, length, get_or, take}
use Rattle.std.specs.List.{list_any}
use Rattle.smpl_terms.specs.declared.var.Var.{Var}
use Rattle.smpl_terms.specs.declared.value.Value.{Value}
use Rattle.smpl_terms.specs.Values.{same}
use Rattle.smpl_terms.specs.Environments.{Environment, total}
use Rattle.env_sets.specs.Sets.{Entries}
use Rattle.env_sets.specs.Blocks.{all_entries}
use Rattle.env_sets.proofs.BlockLemmas.{all_more_at}
use Rattle.wit_forest.specs.WitSteps.Choices.{chosen, AllRise}
use Rattle.wit_forest.proofs.WitSteps.ChoiceLemmas.{rise_both, chosen_both}
use Rattle.wit_forest.proofs.wit_steps.values.put_block_choices.Goals as goal

or_third : (a b c : Bool) → ((a || b) || c) ≡ (a || (b || c))
or_third true b c = refl
or_third false b c = refl

-- one more block
block_more : (x : Var) (env : Environment) (bs : List Entries) (i m : ℕ) (b s : Entries) (z : Value) (old before after : Bool)
    → i < length bs → b ≡ get_or bs i b → m ≡ suc i → s ≡ b
    → before ≡ (old || chosen x env (all_entries (take i bs)) z) → after ≡ (before || chosen x env s z)
    → after ≡ (old || chosen x env (all_entries (take m bs)) z)
block_more x env bs i m b s z old before after lt is one same e f =
    let front = all_entries (take i bs) in
    f ∙ ap (λ c. c || chosen x env s z) e
    ∙ or_third old (chosen x env front z) (chosen x env s z)
    ∙ ap (λ es. old || (chosen x env front z || chosen x env es z)) same
    ∙ ap (λ c. old || c) (sym (chosen_both x env front b z))
    ∙ ap (λ es. old || chosen x env es z) (sym (all_more_at bs i m b lt is one))

block_rise : (bs : List Entries) (i m : ℕ) (b s : Entries) → i < length bs → b ≡ get_or bs i b → m ≡ suc i → s ≡ b
    → AllRise (all_entries (take i bs)) → AllRise s → AllRise (all_entries (take m bs))
block_rise bs i m b s lt is one same r t =
    subst AllRise (sym (all_more_at bs i m b lt is one)) (rise_both (all_entries (take i bs)) b r (subst AllRise same t))

pub loop-block-preserved : goal.loop-block-preserved
loop-block-preserved c =
    let bs = c.args.blocks.now in
    let lt : c.loop-block.block-index < length c.args.blocks.now = omega arith in
    record {
      values = λ z. block_more c.args.x.now (total c.args.env.now) bs c.loop-block.block-index _ c.block-item.result c.as_slice.result.now z
          (list_any (λ u. same u z) c.args.values.now.items)
          (list_any (λ u. same u z) c.loop-block.values.items) _ lt c.block-item.is (omega arith) c.as_slice.ensures.items
          (c.loop-block.invariant.values z) (c.in_ok-put_choices.ensures.values z);
      rise = block_rise bs c.loop-block.block-index _ c.block-item.result c.as_slice.result.now lt c.block-item.is (omega arith) c.as_slice.ensures.items
          c.loop-block.invariant.rise c.in_ok-put_choices.ensures.rise;
    }
