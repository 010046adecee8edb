use Rattle.smpl_notes.proofs.LoopLemmas.{slips-step}
use Rattle.smpl_notes.proofs.names.put_slips.Goals as goal

pub loop-name-preserved : goal.loop-name-preserved
loop-name-preserved c =
    slips-step c.args.declared.now c.loop-name.seen c.add.new.self c.args.names.now c.loop-name.name-index c.name-item.result
    c.loop-name.found c.put_slip.new.found _ c.loop-name-test.true c.name-item.is c.in_ok-put_slip.ensures c.in_ok-add.ensures c.loop-name.invariant
