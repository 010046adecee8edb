use Rattle.std.proofs.Common.{◌≤◌, List, subst, ltb-true}
use Rattle.smpl_patch.specs.declared.elem.Elem.{Elem}
use Rattle.smpl_patch.specs.Bodies.{body}
use Rattle.ctl_translate.specs.Deep.{levels_body}
use Rattle.ctl_translate.proofs.DeepLemmas.{too-deep}
use Rattle.ctl_translate.proofs.deep.is_far_too_long.Goals as goal

pub returns : goal.returns
returns c h =
    let P : List Elem → Type 0 = λ z. c.levels_body.result ≤ levels_body (body z) 0 in
    too-deep c.args.rule.now c.levels_body.result (subst P c.as_slice.ensures c.levels_body.ensures)
    (ltb-true 4001 c.levels_body.result h)
