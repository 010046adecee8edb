use Rattle.std.proofs.Common.{◌≡◌, ◌||◌, ◌+◌, drop}
use Rattle.smpl_terms.specs.declared.var.Var.{Var}
use Rattle.smpl_patch.specs.Bodies.{body, element}
use Rattle.smpl_patch.proofs.BodyLemmas.{bodies}
use Rattle.pattern_vars.specs.Reads.{has}
use Rattle.pattern_vars.specs.VarPlaces.Places.{reads_by}
use Rattle.pattern_vars.specs.VarPlaces.Placing as placing
use Rattle.smpl_patch.proofs.Weights.{weight_element, weight_body, weight_bodies}
use Rattle.pattern_vars.proofs.var_places.sets.+put.Given as goal

abbrev pub decreases-put_element : goal.decreases-put_element
decreases-put_element l = weight_element (element l.e.now)

abbrev pub decreases-put_compound : goal.decreases-put_compound
decreases-put_compound l = 2 + weight_bodies (bodies l.bs.now)

abbrev pub decreases-put_block : goal.decreases-put_block
decreases-put_block l = 2 + weight_body (body l.b.now)

abbrev pub decreases-put_whens : goal.decreases-put_whens
decreases-put_whens l = 2 + weight_bodies (bodies l.ws.now)

abbrev pub decreases-put_nest : goal.decreases-put_nest
decreases-put_nest l = 4 + (weight_body (body l.b.now) + weight_bodies (bodies l.ws.now))

abbrev pub decreases-put_body : goal.decreases-put_body
decreases-put_body l = weight_body (body l.b.now)

abbrev pub decreases-put_bodies : goal.decreases-put_bodies
decreases-put_bodies l = weight_bodies (bodies l.bs.now)

abbrev pub invariant-put_body-loop-e : goal.invariant-put_body-loop-e
invariant-put_body-loop-e l = (y : Var) →
    (has l.set y || placing.any_body l.whens (λ p. reads_by l.reader l.plus p y) (body (drop l.e-index l.b)))
    ≡ (has l.initial.set y || placing.any_body l.whens (λ p. reads_by l.reader l.plus p y) (body l.b))

abbrev pub invariant-put_bodies-loop-b : goal.invariant-put_bodies-loop-b
invariant-put_bodies-loop-b l = (y : Var) →
    (has l.set y || placing.any_bodies l.whens (λ p. reads_by l.reader l.plus p y) (bodies (drop l.b-index l.bs)))
    ≡ (has l.initial.set y || placing.any_bodies l.whens (λ p. reads_by l.reader l.plus p y) (bodies l.bs))
