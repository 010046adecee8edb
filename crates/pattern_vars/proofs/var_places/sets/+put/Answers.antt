use Rattle.std.proofs.Common.{◌≡◌, sym, subst, ap, ◌∙◌, ◌||◌, ◌&&◌, refl, arith, Bool, List, OnOk}
use Rattle.smpl_terms.specs.declared.var.Var.{Var}
use Rattle.smpl_patch.specs.declared.elem.Elem.{Elem}
use Rattle.smpl_patch.specs.declared.pattern.Pattern.{Pattern}
use Rattle.smpl_patch.specs.Bodies.{Element, Compound, Block, body, element}
use Rattle.smpl_patch.proofs.BodyLemmas.{bodies, element-Compound, element-Block}
use Rattle.pattern_vars.specs.Reads.{has}
use Rattle.pattern_vars.specs.VarPlaces.Places.{reads_by}
use Rattle.pattern_vars.proofs.SetLemmas.{any-step, any-end, put-two}
use Rattle.pattern_vars.specs.VarPlaces.Placing as placing
use Rattle.smpl_patch.proofs.Weights.{weight_body, body-at, bodies-at, one-body, one}
use Rattle.pattern_vars.proofs.var_places.sets.+put.Goals as goal

pub put_body-put_element-requires : goal.put_body-put_element-requires
put_body-put_element-requires t c =
    let w = body-at c.args.b.now c.loop-e.e-index c.e-item.result c.loop-e-test.true c.e-item.is in
    (omega (arith, w), tt)

pub put_bodies-put_body-requires : goal.put_bodies-put_body-requires
put_bodies-put_body-requires t c =
    let w = bodies-at c.args.bs.now c.loop-b.b-index c.b-item.result c.loop-b-test.true c.b-item.is in
    let e = ap (λ z. weight_body (body z)) c.as_slice.ensures in
    (omega (arith, w, e), tt)

pub put_body-loop-e-preserved : goal.put_body-loop-e-preserved
put_body-loop-e-preserved t c y =
    let test : Pattern → Bool = λ p. reads_by c.args.reader.now c.args.plus p y in
    any-step (λ (e : Elem). placing.any_element c.args.whens test (element e)) (λ (es : List Elem). placing.any_body c.args.whens test (body es)) (λ x xs. refl)
    c.args.b.now c.loop-e.e-index c.e-item.result (has c.loop-e.set y) (has c.put_element.new.set y) _ c.loop-e-test.true c.e-item.is
    (c.in_ok-put_element.ensures y) (c.loop-e.invariant y)

pub put_body-returns : goal.put_body-returns
put_body-returns t c y =
    let test : Pattern → Bool = λ p. reads_by c.args.reader.now c.args.plus p y in
    any-end (λ (es : List Elem). placing.any_body c.args.whens test (body es)) refl c.args.b.now c.loop-e.e-index
    (has c.loop-e.set y) _ (omega arith) (c.loop-e.invariant y)

pub put_bodies-loop-b-preserved : goal.put_bodies-loop-b-preserved
put_bodies-loop-b-preserved t c y =
    let test : Pattern → Bool = λ p. reads_by c.args.reader.now c.args.plus p y in
    any-step (λ (b : List Elem). placing.any_body c.args.whens test (body b))
    (λ (bs : List (List Elem)). placing.any_bodies c.args.whens test (bodies bs)) (λ x xs. refl)
    c.args.bs.now c.loop-b.b-index c.b-item.result (has c.loop-b.set y) (has c.put_body.new.set y) _ c.loop-b-test.true c.b-item.is
    (c.in_ok-put_body.ensures y ∙ ap (λ (z : List Elem). has c.loop-b.set y || placing.any_body c.args.whens test (body z))
    c.as_slice.ensures) (c.loop-b.invariant y)

pub put_bodies-returns : goal.put_bodies-returns
put_bodies-returns t c y =
    let test : Pattern → Bool = λ p. reads_by c.args.reader.now c.args.plus p y in
    any-end (λ (bs : List (List Elem)). placing.any_bodies c.args.whens test (bodies bs)) refl c.args.bs.now c.loop-b.b-index
    (has c.loop-b.set y) _ (omega arith) (c.loop-b.invariant y)

pub put_compound-returns : goal.put_compound-returns
put_compound-returns t c y =
    let test : Pattern → Bool = λ p. reads_by c.args.reader.now c.args.plus p y in
    let head = test c.args.h.now in
    let inside = placing.any_bodies c.args.whens test (bodies c.args.bs.now) in
    put-two (has c.args.set.now y) (has c.put_bodies.new.set y) (has c.put_option.new.set y) (head || inside) (placing.any_option test c.args.tail.now)
    (put-two (has c.args.set.now y) (has c.put_pattern.new.set y) (has c.put_bodies.new.set y) head inside
    (c.in_ok-put_pattern.ensures y) (c.in_ok-put_bodies.ensures y))
    (c.in_ok-put_option.ensures y)

pub put_block-returns : goal.put_block-returns
put_block-returns t c y =
    let test : Pattern → Bool = λ p. reads_by c.args.reader.now c.args.plus p y in
    let head = test c.args.o.now in
    let inside = placing.any_body c.args.whens test (body c.args.b.now) in
    put-two (has c.args.set.now y) (has c.put_body.new.set y) (has c.put_pattern-2.new.set y) (head || inside) (test c.args.c.now)
    (put-two (has c.args.set.now y) (has c.put_pattern.new.set y) (has c.put_body.new.set y) head inside
    (c.in_ok-put_pattern.ensures y) (c.in_ok-put_body.ensures y))
    (c.in_ok-put_pattern-2.ensures y)

pub put_nest-returns : goal.put_nest-returns
put_nest-returns t c y =
    let test : Pattern → Bool = λ p. reads_by c.args.reader.now c.args.plus p y in
    put-two (has c.args.set.now y) (has c.put_body.new.set y) (has c.put_whens.new.set y) (placing.any_body c.args.whens test (body c.args.b.now))
    (c.args.whens && placing.any_bodies c.args.whens test (bodies c.args.ws.now)) (c.in_ok-put_body.ensures y) (c.in_ok-put_whens.ensures y)

pub put_nest-put_body-requires : goal.put_nest-put_body-requires
put_nest-put_body-requires t c = (omega (arith, one (bodies c.args.ws.now)), tt)

pub put_nest-put_whens-requires : goal.put_nest-put_whens-requires
put_nest-put_whens-requires t c = (omega (arith, one-body (body c.args.b.now)), tt)

pub put_element-returns-in-Compound : goal.put_element-returns-in-Compound
put_element-returns-in-Compound t c =
    let is : Compound c.in-Compound.h (bodies c.as_slice.result.now) c.in-Compound.tail ≡ element c.args.e.now =
    ap (λ (z : List (List Elem)). Compound c.in-Compound.h (bodies z) c.in-Compound.tail) c.as_slice.ensures
    ∙ sym (ap element c.in-Compound.is ∙ element-Compound _ _ _) in
    subst (λ (z : Element). OnOk c.put_compound.result ((y : Var) → has c.put_compound.new.set y
    ≡ (has c.args.set.now y || placing.any_element c.args.whens (λ p. reads_by c.args.reader.now c.args.plus p y) z)))
    is c.put_compound.ensures

pub put_element-returns-in-Block : goal.put_element-returns-in-Block
put_element-returns-in-Block t c =
    let is : Block c.in-Block.o (body c.as_slice-in-Block.result.now) c.in-Block.c ≡ element c.args.e.now =
    ap (λ (z : List Elem). Block c.in-Block.o (body z) c.in-Block.c) c.as_slice-in-Block.ensures
    ∙ sym (ap element c.in-Block.is ∙ element-Block _ _ _) in
    subst (λ (z : Element). OnOk c.put_block.result ((y : Var) → has c.put_block.new.set y
    ≡ (has c.args.set.now y || placing.any_element c.args.whens (λ p. reads_by c.args.reader.now c.args.plus p y) z)))
    is c.put_block.ensures
