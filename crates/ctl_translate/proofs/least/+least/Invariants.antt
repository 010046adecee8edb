use Rattle.std.proofs.Common.{◌+◌, ◌≤◌, drop}
use Rattle.smpl_patch.specs.Bodies.{body, element}
use Rattle.smpl_patch.proofs.BodyLemmas.{bodies}
use Rattle.ctl_translate.specs.Least as least
use Rattle.smpl_patch.proofs.Weights.{weight_element, weight_body, weight_bodies}
use Rattle.ctl_translate.proofs.LeastLemmas.{IsLeastOf}
use Rattle.ctl_translate.proofs.LeastSteps.{AreLeastOf}
use Rattle.ctl_translate.proofs.least.+least.Given as goal

abbrev pub decreases-least_element : goal.decreases-least_element
decreases-least_element l = weight_element (element l.e.now)

abbrev pub decreases-least_body : goal.decreases-least_body
decreases-least_body l = weight_body (body l.b.now)

abbrev pub decreases-least_alone : goal.decreases-least_alone
decreases-least_alone l = weight_bodies (bodies l.bs.now)

abbrev pub decreases-least_choices : goal.decreases-least_choices
decreases-least_choices l = weight_bodies (bodies l.bs.now)

abbrev pub decreases-least_first : goal.decreases-least_first
decreases-least_first l = weight_bodies (bodies l.bs.now)

abbrev pub invariant-least_body-loop-e : goal.invariant-least_body-loop-e
invariant-least_body-loop-e l = IsLeastOf l.so_far.fixed l.so_far.times (least.least_body (body (drop l.e-index l.b))) (least.least_body (body l.b))

abbrev pub invariant-least_alone-loop-b : goal.invariant-least_alone-loop-b
invariant-least_alone-loop-b l = l.so_far + least.least_alone (bodies (drop l.b-index l.bs)) ≤ least.least_alone (bodies l.bs)

abbrev pub invariant-least_choices-loop-i : goal.invariant-least_choices-loop-i
invariant-least_choices-loop-i l = AreLeastOf l.so_far.fixed l.so_far.times (least.least_choices (bodies (drop l.i l.bs))) (least.least_choices (bodies l.bs))
