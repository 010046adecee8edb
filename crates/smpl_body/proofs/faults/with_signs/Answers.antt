use Rattle.std.proofs.Common.{◌∙◌}
use Rattle.smpl_body.proofs.FaultLemmas.{signs-more}
use Rattle.smpl_body.proofs.faults.with_signs.Goals as goal

pub loop-p-preserved : goal.loop-p-preserved
loop-p-preserved c =
    signs-more c.args.placed.now c.loop-p.p-index c.p-item.result c.loop-p.first c.with_sign-first.result c.loop-p-test.true
    c.p-item.is c.with_sign-first.ensures
    ∙ c.loop-p.invariant
