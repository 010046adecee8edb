use Rattle.std.proofs.Common.{ap, arith, refl}
use Rattle.smpl_patch.specs.Bodies.{body}
use Rattle.smpl_patch.proofs.Weights.{weight_body, body-at, bodies-at}
use Rattle.ctl_translate.proofs.LeastSteps.{body-more, choices-more}
use Rattle.ctl_translate.proofs.least.+least.Goals as goal

pub least_alone-least_body-one-requires : goal.least_alone-least_body-one-requires
least_alone-least_body-one-requires t c =
    let w = bodies-at c.args.bs.now c.loop-b.b-index c.b-item.result c.loop-b-test.true c.b-item.is in
    let e = ap (λ z. weight_body (body z)) c.as_slice.ensures in
    (omega (arith, w, e), tt)

pub least_body-least_element-one-requires : goal.least_body-least_element-one-requires
least_body-least_element-one-requires t c =
    let w = body-at c.args.b.now c.loop-e.e-index c.e-item.result c.loop-e-test.true c.e-item.is in
    (omega (arith, w), tt)

pub least_body-loop-e-preserved : goal.least_body-loop-e-preserved
least_body-loop-e-preserved t c =
    body-more c.args.b.now c.e-item.result c.loop-e.e-index c.loop-e.so_far.fixed c.loop-e.so_far.times
    c.least_element-one.result.fixed c.least_element-one.result.times c.then_least-so_far.result.fixed c.then_least-so_far.result.times
    c.loop-e-test.true c.e-item.is c.loop-e.invariant c.least_element-one.ensures.fixed c.least_element-one.ensures.times
    c.then_least-so_far.ensures.fixed c.then_least-so_far.ensures.times

pub least_choices-least_body-one-requires : goal.least_choices-least_body-one-requires
least_choices-least_body-one-requires t c =
    let w = bodies-at c.args.bs.now c.loop-i.i c.index-bs-i.result c.loop-i-test.true c.index-bs-i.is in
    let e = ap (λ z. weight_body (body z)) c.as_slice.ensures in
    (omega (arith, w, e), tt)

pub least_choices-loop-i-preserved : goal.least_choices-loop-i-preserved
least_choices-loop-i-preserved t c =
    choices-more c.args.bs.now c.index-bs-i.result c.as_slice.result.now c.loop-i.i c.loop-i.so_far.fixed c.loop-i.so_far.times
    c.least_body-one.result.fixed c.least_body-one.result.times _ c.with_branch-so_far.result.fixed c.with_branch-so_far.result.times
    c.loop-i-test.true c.index-bs-i.is c.as_slice.ensures c.loop-i.invariant c.least_body-one.ensures.fixed c.least_body-one.ensures.times refl
    c.with_branch-so_far.ensures.fixed c.with_branch-so_far.ensures.times
