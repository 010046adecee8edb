use Rattle.std.proofs.Common.{ap, arith, length}
use Rattle.std.proofs.lemmas.Bool.Decides.{nat_tests}
use Rattle.env_sets.proofs.BlockLemmas.{some_entry}
use Rattle.env_sets.proofs.blocks.are_empty.Goals as goal

pub returns-then-not-is_empty-clause-some : goal.returns-then-not-is_empty-clause-some
returns-then-not-is_empty-clause-some c = λ h.
    some_entry c.args.blocks.now c.loop-block.block-index c.block-item.result (omega arith) c.block-item.is
    (grind (arith, nat_tests, ap length c.as_slice.ensures.items))
