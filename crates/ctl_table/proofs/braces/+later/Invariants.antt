use Rattle.std.proofs.Common.{◌≡◌, ◌++◌, drop}
use Rattle.smpl_patch.specs.Bodies.{body, element}
use Rattle.smpl_patch.proofs.BodyLemmas.{bodies}
use Rattle.ctl_table.specs.Blocks as blocks
use Rattle.smpl_patch.proofs.Weights.{weight_element, weight_body, weight_bodies}
use Rattle.ctl_table.proofs.braces.+later.Given as goal

abbrev pub decreases-put_later : goal.decreases-put_later
decreases-put_later l = weight_body (body l.b.now)

abbrev pub decreases-put_later_of : goal.decreases-put_later_of
decreases-put_later_of l = weight_element (element l.e.now)

abbrev pub decreases-put_later_each : goal.decreases-put_later_each
decreases-put_later_each l = weight_bodies (bodies l.bodies.now)

abbrev pub decreases-put_pieces : goal.decreases-put_pieces
decreases-put_pieces l = weight_bodies (bodies l.whens.now)

abbrev pub invariant-put_later-loop-e : goal.invariant-put_later-loop-e
invariant-put_later-loop-e l =
    l.found.items ++ blocks.later_body (body (drop l.e-index l.b)) ≡ l.initial.found.items ++ blocks.later_body (body l.b)

abbrev pub invariant-put_later_each-loop-b : goal.invariant-put_later_each-loop-b
invariant-put_later_each-loop-b l =
    l.found.items ++ blocks.later_bodies (bodies (drop l.b-index l.bodies)) ≡ l.initial.found.items ++ blocks.later_bodies (bodies l.bodies)

abbrev pub invariant-put_pieces-loop-w : goal.invariant-put_pieces-loop-w
invariant-put_pieces-loop-w l =
    l.found.items ++ blocks.pieces (bodies (drop l.w-index l.whens)) ≡ l.initial.found.items ++ blocks.pieces (bodies l.whens)
