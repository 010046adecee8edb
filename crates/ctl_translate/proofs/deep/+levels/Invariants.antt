use Rattle.std.proofs.Common.{◌≤◌, drop, length}
use Rattle.smpl_patch.specs.Bodies.{body, element}
use Rattle.smpl_patch.proofs.BodyLemmas.{bodies}
use Rattle.ctl_translate.specs.Deep as deep
use Rattle.smpl_patch.proofs.Weights.{weight_element, weight_body, weight_bodies}
use Rattle.ctl_translate.proofs.deep.+levels.Given as goal

abbrev pub decreases-levels_element : goal.decreases-levels_element
decreases-levels_element l = weight_element (element l.e.now)

abbrev pub decreases-levels_body : goal.decreases-levels_body
decreases-levels_body l = weight_body (body l.b.now)

abbrev pub decreases-levels_choice : goal.decreases-levels_choice
decreases-levels_choice l = weight_bodies (bodies l.bs.now)

abbrev pub decreases-levels_every : goal.decreases-levels_every
decreases-levels_every l = weight_bodies (bodies l.bs.now)

abbrev pub decreases-levels_body-loop-i : goal.decreases-levels_body-loop-i
decreases-levels_body-loop-i l = l.i

abbrev pub invariant-levels_body-loop-i : goal.invariant-levels_body-loop-i
invariant-levels_body-loop-i l = (l.i ≤ length l.b) × (l.levels ≤ deep.levels_body (body (drop l.i l.b)) l.after)
