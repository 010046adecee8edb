use Rattle.std.proofs.Common.{◌≡◌, ◌++◌, drop}
use Rattle.smpl_patch.specs.Bodies.{body, element}
use Rattle.smpl_patch.proofs.BodyLemmas.{bodies}
use Rattle.ctl_table.specs.Blocks as blocks
use Rattle.smpl_patch.proofs.Weights.{weight_element, weight_body, weight_bodies}
use Rattle.ctl_table.proofs.braces.+opens.Given as goal

abbrev pub decreases-put_opens : goal.decreases-put_opens
decreases-put_opens l = weight_body (body l.b.now)

abbrev pub decreases-put_opens_of : goal.decreases-put_opens_of
decreases-put_opens_of l = weight_element (element l.e.now)

abbrev pub decreases-put_opens_each : goal.decreases-put_opens_each
decreases-put_opens_each l = weight_bodies (bodies l.bodies.now)

abbrev pub invariant-put_opens-loop-e : goal.invariant-put_opens-loop-e
invariant-put_opens-loop-e l =
    l.found.items ++ blocks.opens_body (body (drop l.e-index l.b)) ≡ l.initial.found.items ++ blocks.opens_body (body l.b)

abbrev pub invariant-put_opens_each-loop-b : goal.invariant-put_opens_each-loop-b
invariant-put_opens_each-loop-b l =
    l.found.items ++ blocks.opens_bodies (bodies (drop l.b-index l.bodies)) ≡ l.initial.found.items ++ blocks.opens_bodies (bodies l.bodies)
