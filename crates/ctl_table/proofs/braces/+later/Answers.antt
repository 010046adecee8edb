use Rattle.std.proofs.Common.{ℕ, ◌∙◌, ◌++◌, ap, refl, arith, append_assoc, List}
use Rattle.smpl_patch.specs.declared.elem.Elem.{Elem}
use Rattle.smpl_patch.specs.Bodies.{body, element}
use Rattle.smpl_patch.proofs.BodyLemmas.{bodies}
use Rattle.ctl_table.specs.Blocks as blocks
use Rattle.smpl_patch.proofs.Weights.{weight_body, body-at, bodies-at}
use Rattle.ctl_table.proofs.PutLemmas.{put-step, put-end}
use Rattle.ctl_table.proofs.braces.+later.Goals as goal

pub put_later-put_later_of-requires : goal.put_later-put_later_of-requires
put_later-put_later_of-requires t c =
    let w = body-at c.args.b.now c.loop-e.e-index c.e-item.result c.loop-e-test.true c.e-item.is in
    (omega (arith, w), tt)

pub put_later-loop-e-preserved : goal.put_later-loop-e-preserved
put_later-loop-e-preserved t c =
    put-step (λ (e : Elem). blocks.later_element (element e)) (λ (es : List Elem). blocks.later_body (body es))
    (λ x xs. refl) c.args.b.now c.loop-e.e-index c.e-item.result
    c.loop-e.found.items c.put_later_of.new.found.items _ c.loop-e-test.true c.e-item.is c.in_ok-put_later_of.ensures c.loop-e.invariant

pub put_later-returns : goal.put_later-returns
put_later-returns t c =
    put-end (λ (es : List Elem). blocks.later_body (body es)) refl c.args.b.now c.loop-e.e-index c.loop-e.found.items _ (omega arith) c.loop-e.invariant

pub put_later_each-put_later-requires : goal.put_later_each-put_later-requires
put_later_each-put_later-requires t c =
    let w = bodies-at c.args.bodies.now c.loop-b.b-index c.b-item.result c.loop-b-test.true c.b-item.is in
    let e = ap (λ z. weight_body (body z)) c.as_slice.ensures in
    (omega (arith, w, e), tt)

pub put_later_each-loop-b-preserved : goal.put_later_each-loop-b-preserved
put_later_each-loop-b-preserved t c =
    put-step (λ (b : List Elem). blocks.later_body (body b)) (λ (bs : List (List Elem)). blocks.later_bodies (bodies bs))
    (λ x xs. refl) c.args.bodies.now c.loop-b.b-index c.b-item.result
    c.loop-b.found.items c.put_later.new.found.items _ c.loop-b-test.true c.b-item.is
    (c.in_ok-put_later.ensures ∙ ap (λ (z : List Elem). c.loop-b.found.items ++ blocks.later_body (body z)) c.as_slice.ensures) c.loop-b.invariant

pub put_later_each-returns : goal.put_later_each-returns
put_later_each-returns t c =
    put-end (λ (bs : List (List Elem)). blocks.later_bodies (bodies bs)) refl c.args.bodies.now c.loop-b.b-index
    c.loop-b.found.items _ (omega arith) c.loop-b.invariant

pub put_pieces-put_later-requires : goal.put_pieces-put_later-requires
put_pieces-put_later-requires t c =
    let w = bodies-at c.args.whens.now c.loop-w.w-index c.w-item.result c.loop-w-test.true c.w-item.is in
    let e = ap (λ z. weight_body (body z)) c.as_slice-piece.ensures in
    (omega (arith, w, e), tt)

pub put_pieces-loop-w-preserved : goal.put_pieces-loop-w-preserved
put_pieces-loop-w-preserved t c =
    let piece = c.as_slice-piece.result.now in
    put-step (λ (b : List Elem). blocks.opens_body (body b) ++ blocks.later_body (body b)) (λ (bs : List (List Elem)). blocks.pieces (bodies bs)) (λ x xs. refl)
    c.args.whens.now c.loop-w.w-index c.w-item.result c.loop-w.found.items c.put_later.new.found.items _ c.loop-w-test.true c.w-item.is
    (c.in_ok-put_later.ensures ∙ ap (λ (z : List ℕ). z ++ blocks.later_body (body piece)) c.in_ok-put_opens.ensures
    ∙ append_assoc c.loop-w.found.items (blocks.opens_body (body piece)) (blocks.later_body (body piece))
    ∙ ap (λ (z : List Elem). c.loop-w.found.items ++ (blocks.opens_body (body z) ++ blocks.later_body (body z))) c.as_slice-piece.ensures)
    c.loop-w.invariant

pub put_pieces-returns : goal.put_pieces-returns
put_pieces-returns t c =
    put-end (λ (bs : List (List Elem)). blocks.pieces (bodies bs)) refl c.args.whens.now c.loop-w.w-index c.loop-w.found.items _
    (omega arith) c.loop-w.invariant
