use Rattle.std.proofs.Common.{sym, ◌∙◌, refl}
use Rattle.env_sets.proofs.BlockLemmas.{with_first}
use Rattle.env_sets.proofs.removed.blocks_without.Goals as goal

pub without_in_block-requires-clause-parts : goal.without_in_block-requires-clause-parts
without_in_block-requires-clause-parts c =
    with_first c.args.blocks.now c.split_at.result.0.now c.split_at.result.1.now _ c.block-item.result
    (sym c.as_slice-list.ensures.items ∙ c.split_at.ensures.by_index.0) c.in-len1-up.len_at_least c.block-item.is refl
