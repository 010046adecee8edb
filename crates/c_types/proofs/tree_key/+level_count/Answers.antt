use Rattle.std.proofs.Common.{◌∙◌, arith}
use Rattle.c_types.proofs.KeyLemmas.{count_more, count_end}
use Rattle.c_types.proofs.tree_key.+level_count.Goals as goal

pub loop-child-preserved : goal.loop-child-preserved
loop-child-preserved t c =
    count_more c.as_slice-child-items.result.now c.loop-child.child-index c.child-item.result c.loop-child.most c.max-most.result _ c.loop-child-test.true
    c.child-item.is (omega (arith, c.max-most.ensures, c.level_count.ensures)) c.loop-child.invariant

pub returns-after-loop-child : goal.returns-after-loop-child
returns-after-loop-child t c =
    c.saturating_add.ensures
    ∙ count_end c.as_slice-child-items.result.now c.loop-child.child-index c.loop-child.most _ c.loop-child-test.false c.loop-child.invariant
