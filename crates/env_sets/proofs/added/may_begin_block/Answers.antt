use Rattle.std.proofs.Common.{arith}
use Rattle.env_sets.proofs.BlockLemmas.{first_may_follow, follow_along}
use Rattle.env_sets.proofs.added.may_begin_block.Goals as goal

pub returns-in-len1-up : goal.returns-in-len1-up
returns-in-len1-up c = λ h es.
    first_may_follow c.args.block.now es c.args.e.now c.first-item.result (omega (arith, c.in-len1-up.len_at_least)) c.first-item.is
    (follow_along c.args.e.now c.pairs.result.now c.first-item.result c.pairs-in-len1-up.result.now c.pairs.ensures.pairs
    c.pairs-in-len1-up.ensures.pairs (c.may_follow.ensures h))
