use Rattle.std.proofs.Common.{◌++◌, subst, arith}
use Rattle.env_sets.specs.Blocks.{all_entries, FirstIsAfter}
use Rattle.env_sets.proofs.BlockLemmas.{first_is_after, next_block, no_block_after}
use Rattle.env_sets.proofs.removed.begins_above.Goals as goal

pub returns-in-len1-up : goal.returns-in-len1-up
returns-in-len1-up c = λ h env k.
    first_is_after c.args.back.now (all_entries c.args.after.now) c.first-item.result env
    (omega (arith, c.in-len1-up.len_at_least)) c.first-item.is (c.is_above.ensures h env k)

pub returns-in-empty-after : goal.returns-in-empty-after
returns-in-empty-after c = λ h env k.
    no_block_after (FirstIsAfter env) c.args.back.now c.args.after.now (omega arith) (omega arith) tt

pub returns-in-len1-up-after : goal.returns-in-len1-up-after
returns-in-len1-up-after c = λ h env k.
    next_block (FirstIsAfter env) c.args.back.now c.args.after.now c.block-item.result (omega arith) (omega arith) c.block-item.is
    (λ es. subst (λ b. FirstIsAfter env (b ++ es)) c.as_slice.ensures.items (c.block_begins_above.ensures h env k es))
