use Rattle.std.proofs.Common.{sym, ◌∙◌}
use Rattle.smpl_meta.proofs.Walks.{nots_more}
use Rattle.smpl_meta.proofs.faults.with_nots.Goals as goal

pub loop-named-preserved : goal.loop-named-preserved
loop-named-preserved c =
    rw c.with_named-first.ensures (sym (nots_more c.args.earlier.now.heads c.args.kind c.args.nots.now c.loop-named.named-index
    c.named-item.result c.loop-named.first c.loop-named-test.true c.named-item.is) ∙ c.loop-named.invariant)
