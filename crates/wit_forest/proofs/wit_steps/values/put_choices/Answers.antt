use Rattle.std.proofs.Common.{◌<◌, ◌||◌, ◌∙◌, ap, sym, arith, length}
use Rattle.smpl_terms.specs.Environments.{total}
use Rattle.wit_forest.specs.WitSteps.Choices.{chosen}
use Rattle.wit_forest.proofs.WitSteps.ChoiceLemmas.{rise_more, chosen_next}
use Rattle.wit_forest.proofs.wit_steps.values.put_choices.Goals as goal

pub loop-e-preserved : goal.loop-e-preserved
loop-e-preserved c =
    let entries = c.args.entries.now in
    let lt : c.loop-e.e-index < length entries = omega arith in
    let is = c.e-item.is in
    record {
      values = λ z. chosen_next c.args.x.now (total c.args.env.now) entries c.loop-e.e-index c.e-item.result c.pairs.result.now
          z _ _ _ lt is c.pairs.ensures.pairs (c.loop-e.invariant.values z) (c.in_ok-put_choice.ensures z);
      rise = rise_more entries c.loop-e.e-index c.e-item.result lt is c.pairs.ensures.rising c.loop-e.invariant.rise;
    }
