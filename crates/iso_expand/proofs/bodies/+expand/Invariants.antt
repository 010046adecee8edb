use Rattle.std.proofs.Common.{◌≡◌, ℕ, ◌+◌, take, drop}
use Rattle.smpl_patch.specs.Bodies.{body, element}
use Rattle.smpl_patch.proofs.BodyLemmas.{bodies}
use Rattle.iso_expand.specs.Bodies as of
use Rattle.smpl_patch.proofs.Weights.{weight_element, weight_body, weight_bodies}
use Rattle.iso_expand.proofs.bodies.+expand.Given as goal

abbrev pub decreases-expanded_element : goal.decreases-expanded_element
decreases-expanded_element l = weight_element (element l.e.now)

abbrev pub decreases-expanded_body : goal.decreases-expanded_body
decreases-expanded_body l = weight_body (body l.b.now)

abbrev pub decreases-expanded_bodies : goal.decreases-expanded_bodies
decreases-expanded_bodies l = weight_bodies (bodies l.bs.now)

abbrev pub invariant-expanded_body-loop-e : goal.invariant-expanded_body-loop-e
invariant-expanded_body-loop-e l = record {
  done : body l.out ≡ of.expanded_body l.isos l.tokens (body (take l.e-index l.b));
  spent : l.room + of.forms_body l.isos l.tokens (body (take l.e-index l.b)) ≡ l.initial.room;
}

abbrev pub invariant-expanded_bodies-loop-b : goal.invariant-expanded_bodies-loop-b
invariant-expanded_bodies-loop-b l = record {
  done : bodies l.out ≡ of.expanded_bodies l.isos l.tokens (bodies (take l.b-index l.bs));
  spent : l.room + of.forms_bodies l.isos l.tokens (bodies (take l.b-index l.bs)) ≡ l.initial.room;
}
