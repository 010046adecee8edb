use Rattle.std.proofs.Common.{◌++◌, subst, arith}
use Rattle.env_sets.specs.Ascending.{FirstMayFollow}
use Rattle.env_sets.specs.Blocks.{all_entries}
use Rattle.env_sets.proofs.BlockLemmas.{first_may_follow, next_block, no_block_after, follow_along}
use Rattle.env_sets.proofs.added.may_begin.Goals as goal

pub returns-in-len1-up : goal.returns-in-len1-up
returns-in-len1-up c = λ h.
    first_may_follow c.args.back.now (all_entries c.args.after.now) c.args.e.now c.first-item.result (omega (arith, c.in-len1-up.len_at_least)) c.first-item.is
    (follow_along c.args.e.now c.pairs.result.now c.first-item.result c.pairs-in-len1-up.result.now c.pairs.ensures.pairs
    c.pairs-in-len1-up.ensures.pairs (c.may_follow.ensures h))

pub returns-in-empty-after : goal.returns-in-empty-after
returns-in-empty-after c = λ h.
    no_block_after (FirstMayFollow c.args.e.now) c.args.back.now c.args.after.now (omega arith) (omega arith) tt

pub returns-in-len1-up-after : goal.returns-in-len1-up-after
returns-in-len1-up-after c = λ h.
    next_block (FirstMayFollow c.args.e.now) c.args.back.now c.args.after.now c.block-item.result (omega arith) (omega arith) c.block-item.is
    (λ es. subst (λ b. FirstMayFollow c.args.e.now (b ++ es)) c.as_slice.ensures.items (c.may_begin_block.ensures h es))
