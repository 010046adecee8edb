use Rattle.std.proofs.Common.{arith}
use Rattle.std.proofs.lemmas.Bool.Decides.{nat_tests}
use Rattle.env_sets.specs.Blocks.{all_entries, LastIsBefore}
use Rattle.env_sets.proofs.BlockLemmas.{last_is_before, no_block_before}
use Rattle.env_sets.proofs.removed.ends_below.Goals as goal

pub returns-then-is_empty : goal.returns-then-is_empty
returns-then-is_empty c = λ h env k.
    no_block_before (LastIsBefore env) c.args.before.now c.args.front.now (grind (arith, nat_tests)) (grind (arith, nat_tests)) tt

pub returns : goal.returns
returns c = λ h env k.
    last_is_before (all_entries c.args.before.now) c.args.front.now _ c.index-front-front.result env
    (grind (arith, nat_tests)) c.index-front-front.is (c.is_below.ensures h env k)
