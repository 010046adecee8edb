use Rattle.std.proofs.Common.{◌++◌, ◌||◌, ap, ◌∙◌, arith}
use Rattle.env_sets.specs.Sets.{set_denotes}
use Rattle.env_sets.specs.Blocks.{all_entries}
use Rattle.env_sets.proofs.BlockLemmas.{next_of_blocks}
use Rattle.env_sets.proofs.same.same_blocks.Goals as goal

pub loop-block-preserved : goal.loop-block-preserved
loop-block-preserved c = λ env.
    next_of_blocks c.args.blocks.now c.loop-block.block-index _ c.block-item.result env _ _ _ (omega arith) c.block-item.is
    (omega arith) (c.loop-block.invariant env)
    ((rw c.in-Some.is at c.after.ensures) env
    ∙ ap (λ b. set_denotes b env || set_denotes (c.in-Some.behind.0.now ++ all_entries c.in-Some.behind.1.now) env) c.as_slice.ensures.items)
