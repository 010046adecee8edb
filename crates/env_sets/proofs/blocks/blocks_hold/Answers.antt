use Rattle.std.proofs.Common.{◌++◌, ap, sym, ◌∙◌, subst, arith}
use Rattle.smpl_terms.specs.Environments.{total}
use Rattle.env_sets.specs.Sets.{set_denotes}
use Rattle.env_sets.specs.Ascending.{Ascend}
use Rattle.env_sets.specs.Blocks.{FirstIsAfter}
use Rattle.env_sets.proofs.BlockLemmas.{blocks_ascend, block_ascends, blocks_miss, some_block_holds, one_more_misses}
use Rattle.env_sets.proofs.blocks.blocks_hold.Goals as goal

pub ascending_hold-requires : goal.ascending_hold-requires
ascending_hold-requires c =
    subst Ascend (sym c.as_slice-block.ensures.items)
    (block_ascends c.args.blocks.now c.loop-i.i c.index-blocks-i.result (blocks_ascend c.args.blocks.now c.requires) (omega arith) c.index-blocks-i.is)

pub returns-then-is_behind : goal.returns-then-is_behind
returns-then-is_behind c =
    sym (blocks_miss c.args.blocks.now c.loop-i.i c.index-blocks-i.result (total c.args.env.now)
    (blocks_ascend c.args.blocks.now c.requires) (omega arith) c.index-blocks-i.is
    (λ es. subst (λ b. FirstIsAfter (total c.args.env.now) (b ++ es)) c.as_slice-block.ensures.items (c.is_behind.ensures c.if-is_behind.true es))
    c.loop-i.invariant)

pub returns-then-ascending_hold : goal.returns-then-ascending_hold
returns-then-ascending_hold c =
    sym (some_block_holds c.args.blocks.now c.loop-i.i c.index-blocks-i.result (total c.args.env.now) (omega arith) c.index-blocks-i.is
    (ap (λ b. set_denotes b (total c.args.env.now)) (sym c.as_slice-block.ensures.items) ∙ sym c.ascending_hold.ensures ∙ c.if-ascending_hold.true))

pub loop-i-preserved : goal.loop-i-preserved
loop-i-preserved c =
    one_more_misses c.args.blocks.now c.loop-i.i _ c.index-blocks-i.result (total c.args.env.now) (omega arith) c.index-blocks-i.is (omega arith)
    c.loop-i.invariant
    (ap (λ b. set_denotes b (total c.args.env.now)) (sym c.as_slice-block.ensures.items) ∙ sym c.ascending_hold.ensures ∙ c.if-ascending_hold.false)
