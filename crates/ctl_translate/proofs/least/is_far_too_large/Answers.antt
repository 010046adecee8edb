use Rattle.std.proofs.Common.{◌≤◌, List, subst, ltb-true}
use Rattle.smpl_patch.specs.declared.elem.Elem.{Elem}
use Rattle.smpl_patch.specs.Bodies.{body}
use Rattle.ctl_translate.specs.Least.{least_body}
use Rattle.ctl_translate.proofs.LeastLemmas.{too-many}
use Rattle.ctl_translate.proofs.least.is_far_too_large.Goals as goal

pub returns : goal.returns
returns c h =
    let P : List Elem → Type 0 = λ z. c.least_body.result.fixed ≤ (least_body (body z)).fixed in
    too-many c.args.rule.now c.least_body.result.fixed (subst P c.as_slice.ensures c.least_body.ensures.fixed)
    (ltb-true 100000 c.least_body.result.fixed h)
