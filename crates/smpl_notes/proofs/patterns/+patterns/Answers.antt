use Rattle.std.proofs.Common.{◌∙◌, ◌++◌, ap, refl, arith, List, map}
use Rattle.smpl_patch.specs.declared.elem.Elem.{Elem}
use Rattle.smpl_patch.specs.Bodies.{body, element}
use Rattle.smpl_patch.specs.Shapes.{patterns_element, patterns_body, patterns_bodies}
use Rattle.smpl_patch.proofs.BodyLemmas.{bodies}
use Rattle.smpl_notes.proofs.ListLemmas.{put-step, put-end}
use Rattle.smpl_patch.proofs.Weights.{weight_body, body-at, bodies-at}
use Rattle.smpl_notes.proofs.patterns.+patterns.Goals as goal

pub put_body-put_element-requires : goal.put_body-put_element-requires
put_body-put_element-requires t c =
    let w = body-at c.args.elems.now c.loop-elem.elem-index c.elem-item.result c.loop-elem-test.true c.elem-item.is in
    (omega (arith, w), tt)

pub put_body-loop-elem-preserved : goal.put_body-loop-elem-preserved
put_body-loop-elem-preserved t c =
    put-step (λ (e : Elem). patterns_element (element e)) (λ (es : List Elem). patterns_body (body es))
    (λ x xs. refl) c.args.elems.now c.loop-elem.elem-index c.elem-item.result
    (map (λ p. p.now) c.loop-elem.found.items)
    (map (λ p. p.now) c.put_element.new.found.items) _ c.loop-elem-test.true c.elem-item.is c.in_ok-put_element.ensures c.loop-elem.invariant

pub put_body-returns : goal.put_body-returns
put_body-returns t c =
    put-end (λ (es : List Elem). patterns_body (body es)) refl c.args.elems.now c.loop-elem.elem-index (map (λ p. p.now) c.loop-elem.found.items) _
    c.loop-elem-test.false c.loop-elem.invariant

pub put_bodies-put_body-requires : goal.put_bodies-put_body-requires
put_bodies-put_body-requires t c =
    let w = bodies-at c.args.bodies.now c.loop-elems.elems-index c.elems-item.result c.loop-elems-test.true c.elems-item.is in
    let e = ap (λ z. weight_body (body z)) c.as_slice.ensures in
    (omega (arith, w, e), tt)

pub put_bodies-loop-elems-preserved : goal.put_bodies-loop-elems-preserved
put_bodies-loop-elems-preserved t c =
    put-step (λ (b : List Elem). patterns_body (body b)) (λ (bs : List (List Elem)). patterns_bodies (bodies bs))
    (λ x xs. refl) c.args.bodies.now c.loop-elems.elems-index c.elems-item.result
    (map (λ p. p.now) c.loop-elems.found.items) (map (λ p. p.now) c.put_body.new.found.items) _ c.loop-elems-test.true c.elems-item.is
    (c.in_ok-put_body.ensures ∙ ap (λ (z : List Elem). map (λ p. p.now) c.loop-elems.found.items ++ patterns_body (body z))
    c.as_slice.ensures) c.loop-elems.invariant

pub put_bodies-returns : goal.put_bodies-returns
put_bodies-returns t c =
    put-end (λ (bs : List (List Elem)). patterns_bodies (bodies bs)) refl c.args.bodies.now c.loop-elems.elems-index
    (map (λ p. p.now) c.loop-elems.found.items) _
    c.loop-elems-test.false c.loop-elems.invariant
