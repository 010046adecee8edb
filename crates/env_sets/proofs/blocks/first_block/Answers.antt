use Rattle.std.proofs.Common.{◌+◌, ◌-◌, ◌/◌, ◌++◌, subst, arith}
use Rattle.smpl_terms.specs.Environments.{total}
use Rattle.env_sets.specs.Blocks.{LastIsBefore}
use Rattle.env_sets.proofs.BlockLemmas.{blocks_ascend, front_blocks_miss}
use Rattle.env_sets.proofs.blocks.first_block.Goals as goal

pub loop-low-preserved-then-ends_before : goal.loop-low-preserved-then-ends_before
loop-low-preserved-then-ends_before c = record {
  order = omega arith;
  within = c.loop-low.invariant.within;
  front = front_blocks_miss c.args.blocks.now (c.loop-low.low + (c.loop-low.high - c.loop-low.low) / 2)
      (c.loop-low.low + (c.loop-low.high - c.loop-low.low) / 2 + 1)
      c.index-blocks-middle.result (total c.args.env.now) (blocks_ascend c.args.blocks.now c.requires) (omega arith) c.index-blocks-middle.is (omega arith)
      (λ es. subst (λ b. LastIsBefore (total c.args.env.now) (es ++ b)) c.as_slice.ensures.items (c.ends_before.ensures c.if-ends_before.true es));
}
