use Rattle.std.proofs.Common.{arith}
use Rattle.env_sets.proofs.BlockLemmas.{first_is_after}
use Rattle.env_sets.proofs.removed.block_begins_above.Goals as goal

pub returns-in-len1-up : goal.returns-in-len1-up
returns-in-len1-up c = λ h env k es.
    first_is_after c.args.block.now es c.first-item.result env (omega (arith, c.in-len1-up.len_at_least)) c.first-item.is (c.is_above.ensures h env k)
