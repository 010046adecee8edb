use Rattle.std.proofs.Common.{arith}
use Rattle.std.proofs.lemmas.Bool.Decides.{nat_tests}
use Rattle.env_sets.specs.Blocks.{all_entries, LastMayPrecede}
use Rattle.env_sets.proofs.BlockLemmas.{last_may_precede, no_block_before, follow_along}
use Rattle.env_sets.proofs.added.may_end.Goals as goal

pub returns-then-is_empty : goal.returns-then-is_empty
returns-then-is_empty c = λ h.
    no_block_before (λ es. LastMayPrecede es c.args.e.now) c.args.before.now c.args.front.now (grind (arith, nat_tests)) (grind (arith, nat_tests)) tt

pub returns : goal.returns
returns c = λ h.
    last_may_precede (all_entries c.args.before.now) c.args.front.now _ c.index-front-front.result c.args.e.now
    (grind (arith, nat_tests)) c.index-front-front.is
    (follow_along c.index-front-front.result c.pairs.result.now c.args.e.now c.pairs-2.result.now c.pairs.ensures.pairs
    c.pairs-2.ensures.pairs (c.may_follow.ensures h))
