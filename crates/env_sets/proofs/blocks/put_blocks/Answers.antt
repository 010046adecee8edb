use Rattle.std.proofs.Common.{◌++◌, sym, ◌∙◌, arith}
use Rattle.env_sets.proofs.BlockLemmas.{all_more_behind}
use Rattle.env_sets.proofs.blocks.put_blocks.Goals as goal

pub loop-block-preserved : goal.loop-block-preserved
loop-block-preserved c =
    c.in_ok-put_entries.ensures
    ∙ (λ i. c.loop-block.invariant i ++ c.as_slice.ensures.items i)
    ∙ sym (all_more_behind c.args.out.now.items c.args.blocks.now c.loop-block.block-index _ c.block-item.result (omega arith) c.block-item.is (omega arith))
