use Rattle.ctl_table.proofs.LoopLemmas.{and-step}
use Rattle.ctl_table.proofs.wrap.and_all.Goals as goal

pub loop-g-preserved : goal.loop-g-preserved
loop-g-preserved c =
    and-step c.args.parts.now c.loop-g.parts c.push.new.self c.args.more.now c.loop-g.g-index c.args.f c.loop-g.found c.in_ok-found.found
    c.loop-g-test.true c.requires.more c.loop-g.invariant c.in_ok-found.ensures.made
