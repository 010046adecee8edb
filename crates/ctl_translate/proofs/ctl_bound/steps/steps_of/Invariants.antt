use Rattle.std.proofs.Common.{◌≡◌, take, map}
use Rattle.ctl_translate.specs.CtlBound.Steps.{step_of, AreOrdered}
use Rattle.ctl_translate.proofs.ctl_bound.steps.steps_of.Given as goal

abbrev pub invariant-loop-i : goal.invariant-loop-i
invariant-loop-i l = (l.steps.items ≡ map step_of (take l.i l.parts)) × AreOrdered l.steps.items
