use Rattle.std.proofs.Common.{◌∙◌}
use Rattle.std.proofs.lemmas.Result.{IfOk-weaker}
use Rattle.env_sets.specs.Blocks.{all_entries}
use Rattle.env_sets.proofs.BlockLemmas.{around_parts}
use Rattle.env_sets.proofs.removed.without_between.Goals as goal

pub returns : goal.returns
returns c = IfOk-weaker c.blocks_around.result _ _ (λ r h.
    h ∙ around_parts (all_entries c.args.before.now) c.args.front.now c.args.back.now
    (all_entries c.args.after.now) c.in_ok-block.block.items c.in_ok-block.ensures)
    c.blocks_around.ensures
