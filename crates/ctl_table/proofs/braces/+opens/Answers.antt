use Rattle.std.proofs.Common.{◌∙◌, ◌++◌, ap, refl, arith, List}
use Rattle.smpl_patch.specs.declared.elem.Elem.{Elem}
use Rattle.smpl_patch.specs.Bodies.{body, element}
use Rattle.smpl_patch.proofs.BodyLemmas.{bodies}
use Rattle.ctl_table.specs.Blocks as blocks
use Rattle.smpl_patch.proofs.Weights.{weight_body, body-at, bodies-at}
use Rattle.ctl_table.proofs.PutLemmas.{put-step, put-end}
use Rattle.ctl_table.proofs.braces.+opens.Goals as goal

pub put_opens-put_opens_of-requires : goal.put_opens-put_opens_of-requires
put_opens-put_opens_of-requires t c =
    let w = body-at c.args.b.now c.loop-e.e-index c.e-item.result c.loop-e-test.true c.e-item.is in
    (omega (arith, w), tt)

pub put_opens-loop-e-preserved : goal.put_opens-loop-e-preserved
put_opens-loop-e-preserved t c =
    put-step (λ (e : Elem). blocks.opens_element (element e)) (λ (es : List Elem). blocks.opens_body (body es))
    (λ x xs. refl) c.args.b.now c.loop-e.e-index c.e-item.result
    c.loop-e.found.items c.put_opens_of.new.found.items _ c.loop-e-test.true c.e-item.is c.in_ok-put_opens_of.ensures c.loop-e.invariant

pub put_opens-returns : goal.put_opens-returns
put_opens-returns t c =
    put-end (λ (es : List Elem). blocks.opens_body (body es)) refl c.args.b.now c.loop-e.e-index c.loop-e.found.items _ (omega arith) c.loop-e.invariant

pub put_opens_each-put_opens-requires : goal.put_opens_each-put_opens-requires
put_opens_each-put_opens-requires t c =
    let w = bodies-at c.args.bodies.now c.loop-b.b-index c.b-item.result c.loop-b-test.true c.b-item.is in
    let e = ap (λ z. weight_body (body z)) c.as_slice.ensures in
    (omega (arith, w, e), tt)

pub put_opens_each-loop-b-preserved : goal.put_opens_each-loop-b-preserved
put_opens_each-loop-b-preserved t c =
    put-step (λ (b : List Elem). blocks.opens_body (body b)) (λ (bs : List (List Elem)). blocks.opens_bodies (bodies bs))
    (λ x xs. refl) c.args.bodies.now c.loop-b.b-index c.b-item.result
    c.loop-b.found.items c.put_opens.new.found.items _ c.loop-b-test.true c.b-item.is
    (c.in_ok-put_opens.ensures ∙ ap (λ (z : List Elem). c.loop-b.found.items ++ blocks.opens_body (body z)) c.as_slice.ensures) c.loop-b.invariant

pub put_opens_each-returns : goal.put_opens_each-returns
put_opens_each-returns t c =
    put-end (λ (bs : List (List Elem)). blocks.opens_bodies (bodies bs)) refl c.args.bodies.now c.loop-b.b-index
    c.loop-b.found.items _ (omega arith) c.loop-b.invariant
