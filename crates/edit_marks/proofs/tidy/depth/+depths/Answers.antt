use Rattle.std.proofs.Common.{◌≡◌, ◌∙◌, ◌++◌, ◌+◌, ap, refl, arith, List, drop}
use Rattle.smpl_patch.specs.declared.elem.Elem.{Elem}
use Rattle.smpl_patch.specs.Bodies.{body, element}
use Rattle.smpl_patch.proofs.BodyLemmas.{bodies}
use Rattle.smpl_patch.proofs.Weights.{weight_body, body-at, bodies-at}
use Rattle.edit_marks.specs.declared.tidy.depth.AtomDepth.{AtomDepth}
use Rattle.edit_marks.specs.Tidy.Depths.{outermost, depths_element, depths_body, depths_bodies}
use Rattle.edit_marks.proofs.EditWalk.ListLemmas.{put-step, put-end}
use Rattle.edit_marks.proofs.Tidied.DepthLemmas.{put_changed}
use Rattle.edit_marks.proofs.tidy.depth.+depths.Goals as goal

pub put_body-put_element-requires : goal.put_body-put_element-requires
put_body-put_element-requires t c =
    let w = body-at c.args.elems.now c.loop-elem.elem-index c.elem-item.result c.loop-elem-test.true c.elem-item.is in
    (omega (arith, w), tt)

pub put_body-loop-elem-preserved : goal.put_body-loop-elem-preserved
put_body-loop-elem-preserved t c =
    let tokens = c.args.tokens.now in
    let d = c.loop-elem.depth in
    let rest = drop (c.loop-elem.elem-index + 1) c.args.elems.now in
    ap (λ (x : AtomDepth). c.put_element.new.found.items ++ depths_body tokens x (body rest)) c.outermost-depth.ensures
    ∙ put_changed (λ (e : Elem). depths_element tokens d (element e)) (λ (es : List Elem). depths_body tokens d (body es))
    (λ (es : List Elem). depths_body tokens outermost (body es)) (λ x xs. refl) c.args.elems.now c.loop-elem.elem-index c.elem-item.result
    c.loop-elem.found.items c.put_element.new.found.items _ c.loop-elem-test.true c.elem-item.is c.in_ok-put_element.ensures c.loop-elem.invariant

pub put_body-returns : goal.put_body-returns
put_body-returns t c =
    put-end (λ (es : List Elem). depths_body c.args.tokens.now c.loop-elem.depth (body es)) refl c.args.elems.now c.loop-elem.elem-index
    c.loop-elem.found.items _ c.loop-elem-test.false c.loop-elem.invariant

pub put_bodies-put_body-requires : goal.put_bodies-put_body-requires
put_bodies-put_body-requires t c =
    let w = bodies-at c.args.bodies.now c.loop-elems.elems-index c.elems-item.result c.loop-elems-test.true c.elems-item.is in
    let e = ap (λ z. weight_body (body z)) c.as_slice.ensures in
    (omega (arith, w, e), tt)

pub put_bodies-loop-elems-preserved : goal.put_bodies-loop-elems-preserved
put_bodies-loop-elems-preserved t c =
    let tokens = c.args.tokens.now in
    let d = c.args.first in
    put-step (λ (b : List Elem). depths_body tokens d (body b)) (λ (bs : List (List Elem)). depths_bodies tokens d (bodies bs))
    (λ x xs. refl) c.args.bodies.now c.loop-elems.elems-index c.elems-item.result c.loop-elems.found.items c.put_body.new.found.items _
    c.loop-elems-test.true c.elems-item.is
    (c.in_ok-put_body.ensures ∙ ap (λ (z : List Elem). c.loop-elems.found.items ++ depths_body tokens d (body z)) c.as_slice.ensures)
    c.loop-elems.invariant

pub put_bodies-returns : goal.put_bodies-returns
put_bodies-returns t c =
    put-end (λ (bs : List (List Elem)). depths_bodies c.args.tokens.now c.args.first (bodies bs)) refl c.args.bodies.now c.loop-elems.elems-index
    c.loop-elems.found.items _ c.loop-elems-test.false c.loop-elems.invariant
