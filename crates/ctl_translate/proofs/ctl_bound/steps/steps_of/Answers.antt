use Rattle.std.proofs.Common.{◌<◌, arith, length}
use Rattle.ctl_translate.proofs.CtlBound.StepLemmas.{steps-more}
use Rattle.ctl_translate.proofs.ctl_bound.steps.steps_of.Goals as goal

pub loop-i-preserved : goal.loop-i-preserved
loop-i-preserved c =
    let within : c.loop-i.i < length c.args.parts.now = omega arith in
    steps-more c.args.parts.now c.loop-i.i c.node.result.now c.loop-i.steps.items c.push.new.self.items c.step_of.result
    within c.node.ensures.node c.node.ensures.kids c.step_of.ensures c.in_ok-push.ensures.items c.loop-i.invariant
