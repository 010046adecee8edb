use Rattle.std.proofs.Common.{◌≡◌, ◌++◌, drop}
use Rattle.smpl_patch.specs.Bodies.{body, element}
use Rattle.smpl_patch.proofs.BodyLemmas.{bodies}
use Rattle.smpl_patch.proofs.Weights.{weight_element, weight_body, weight_bodies}
use Rattle.edit_marks.specs.Tidy.Depths.{depths_body, depths_bodies}
use Rattle.edit_marks.proofs.tidy.depth.+depths.Given as goal

abbrev pub decreases-put_body : goal.decreases-put_body
decreases-put_body l = weight_body (body l.elems.now)

abbrev pub decreases-put_bodies : goal.decreases-put_bodies
decreases-put_bodies l = weight_bodies (bodies l.bodies.now)

abbrev pub decreases-put_element : goal.decreases-put_element
decreases-put_element l = weight_element (element l.elem.now)

abbrev pub invariant-put_body-loop-elem : goal.invariant-put_body-loop-elem
invariant-put_body-loop-elem l =
    l.found.items ++ depths_body l.tokens l.depth (body (drop l.elem-index l.elems)) ≡ l.initial.found.items ++ depths_body l.tokens l.initial.depth (body l.elems)

abbrev pub invariant-put_bodies-loop-elems : goal.invariant-put_bodies-loop-elems
invariant-put_bodies-loop-elems l =
    l.found.items ++ depths_bodies l.tokens l.first (bodies (drop l.elems-index l.bodies))
    ≡ l.initial.found.items ++ depths_bodies l.tokens l.first (bodies l.bodies)
