use Rattle.std.proofs.Common.{◌≡◌, ℕ, ◌+◌, ◌<◌, List, length, take, sym, ap, subst, ◌∙◌, arith}
use Rattle.std.proofs.lemmas.Result.{err_from_is_err_and}
use Rattle.smpl_patch.specs.declared.elem.Elem.{Elem}
use Rattle.smpl_patch.specs.Bodies.{body, element}
use Rattle.smpl_patch.proofs.BodyLemmas.{bodies}
use Rattle.iso_expand.specs.Bodies.{expanded_body, expanded_bodies, forms_element, forms_body, forms_bodies}
use Rattle.iso_expand.specs.Stepped.{NoRoom}
use Rattle.smpl_patch.proofs.Weights.{weight_body, body-at, bodies-at}
use Rattle.iso_expand.proofs.BodyLemmas.{body_more, body_spent, body_part, bodies_more, bodies_spent, bodies_part}
use Rattle.iso_expand.proofs.DotsLemmas.{gap_made, nest_made}
use Rattle.iso_expand.proofs.RoomLemmas.{no_room_more}
use Rattle.iso_expand.proofs.bodies.+expand.Goals as goal

pub expanded_body-expanded_element-requires : goal.expanded_body-expanded_element-requires
expanded_body-expanded_element-requires t c =
    let w = body-at c.args.b.now c.loop-e.e-index c.e-item.result c.loop-e-test.true c.e-item.is in
    (omega (arith, w), tt)

pub expanded_bodies-expanded_body-requires : goal.expanded_bodies-expanded_body-requires
expanded_bodies-expanded_body-requires t c =
    let w = bodies-at c.args.bs.now c.loop-b.b-index c.b-item.result c.loop-b-test.true c.b-item.is in
    let e = ap (λ z. weight_body (body z)) c.as_slice.ensures in
    (omega (arith, w, e), tt)

pub expanded_body-loop-e-preserved : goal.expanded_body-loop-e-preserved
expanded_body-loop-e-preserved t c =
    let isos = c.args.isos.now in
    let tokens = c.args.tokens.now in
    let i = c.loop-e.e-index in
    let e = c.e-item.result in
    record {
      done = body_more isos tokens c.args.b.now c.loop-e.out c.push.new.self i e c.in_ok-f.f c.loop-e-test.true c.e-item.is c.in_ok-push.ensures.ok
          c.in_ok-f.ensures.element c.loop-e.invariant.done;
      spent = body_spent isos tokens c.args.b.now i e c.args.room.now c.loop-e.room c.expanded_element.new.room c.loop-e-test.true c.e-item.is
          c.in_ok-f.ensures.room c.loop-e.invariant.spent;
    }

pub expanded_bodies-loop-b-preserved : goal.expanded_bodies-loop-b-preserved
expanded_bodies-loop-b-preserved t c =
    let isos = c.args.isos.now in
    let tokens = c.args.tokens.now in
    let i = c.loop-b.b-index in
    let b = c.b-item.result in
    record {
      done = bodies_more isos tokens c.args.bs.now c.loop-b.out c.push.new.self i b c.in_ok-inner.inner c.loop-b-test.true c.b-item.is c.in_ok-push.ensures.ok
          (c.in_ok-inner.ensures.body ∙ ap (λ z. expanded_body isos tokens (body z)) c.as_slice.ensures) c.loop-b.invariant.done;
      spent = bodies_spent isos tokens c.args.bs.now i b c.args.room.now c.loop-b.room c.expanded_body.new.room c.loop-b-test.true c.b-item.is
          (ap (λ z. c.expanded_body.new.room + forms_body isos tokens (body z)) (sym c.as_slice.ensures) ∙ c.in_ok-inner.ensures.room) c.loop-b.invariant.spent;
    }

pub expanded_body-returns-in_err-f-clause-refused : goal.expanded_body-returns-in_err-f-clause-refused
expanded_body-returns-in_err-f-clause-refused t c =
    let isos = c.args.isos.now in
    let tokens = c.args.tokens.now in
    let i = c.loop-e.e-index in
    let e = c.e-item.result in
    let p = err_from_is_err_and c.from_residual.result c.from_residual.ensures.1 in
    rw (p.1, p.2) (no_room_more c.args.room.now c.loop-e.room (forms_body isos tokens (body (take i c.args.b.now))) (forms_element isos tokens (element e))
    (forms_body isos tokens (body c.args.b.now)) c.in_err-f.field-0.0 c.loop-e.invariant.spent
    (body_part isos tokens c.args.b.now i e c.loop-e-test.true c.e-item.is) c.in_err-f.ensures.refused)

pub expanded_bodies-returns-in_err-inner-clause-refused : goal.expanded_bodies-returns-in_err-inner-clause-refused
expanded_bodies-returns-in_err-inner-clause-refused t c =
    let isos = c.args.isos.now in
    let tokens = c.args.tokens.now in
    let i = c.loop-b.b-index in
    let b = c.b-item.result in
    let f = c.in_err-inner.field-0.0 in
    let p = err_from_is_err_and c.from_residual.result c.from_residual.ensures.1 in
    rw (p.1, p.2) (no_room_more c.args.room.now c.loop-b.room (forms_bodies isos tokens (bodies (take i c.args.bs.now))) (forms_body isos tokens (body b))
    (forms_bodies isos tokens (bodies c.args.bs.now)) f c.loop-b.invariant.spent (bodies_part isos tokens c.args.bs.now i b c.loop-b-test.true c.b-item.is)
    (subst (λ (es : List Elem). NoRoom c.loop-b.room (forms_body isos tokens (body es)) f) c.as_slice.ensures c.in_err-inner.ensures.refused))

pub expanded_element-returns-in_ok-whens-in-Gap-clause-element : goal.expanded_element-returns-in_ok-whens-in-Gap-clause-element
expanded_element-returns-in_ok-whens-in-Gap-clause-element t c =
    let isos = c.args.isos.now in
    let tokens = c.args.tokens.now in
    gap_made isos tokens c.args.e.now c.in-Gap.d c.in_ok-whens-in-Gap.whens c.in-Gap.is
    (c.in_ok-whens-in-Gap.ensures.bodies ∙ ap (λ z. expanded_bodies isos tokens (bodies z)) c.as_slice-in-Gap.ensures)

pub expanded_element-returns-in_ok-whens-in-Nest-clause-element : goal.expanded_element-returns-in_ok-whens-in-Nest-clause-element
expanded_element-returns-in_ok-whens-in-Nest-clause-element t c =
    let isos = c.args.isos.now in
    let tokens = c.args.tokens.now in
    nest_made isos tokens c.args.e.now c.in-Nest.plus c.in-Nest.b c.in_ok-inner-in-Nest.inner c.in-Nest.d c.in_ok-whens-in-Nest.whens c.in-Nest.is
    (c.in_ok-inner-in-Nest.ensures.body ∙ ap (λ z. expanded_body isos tokens (body z)) c.as_slice-in-Nest.ensures)
    (c.in_ok-whens-in-Nest.ensures.bodies ∙ ap (λ z. expanded_bodies isos tokens (bodies z)) c.as_slice-in-Nest-2.ensures)
