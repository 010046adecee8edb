use Rattle.std.proofs.Common.{refl, ◌∙◌}
use Rattle.edit_marks.specs.declared.edit_conflict.mark.Mark.{Mark}
use Rattle.edit_unparse.proofs.EqualKeys.{slice_keys}
use Rattle.edit_bodies.proofs.anchors.marks_at.Goals as goal

pub returns : goal.returns
returns c =
    let marks = c.marks-marks.result.now in
    slice_keys (λ (m : Mark). m.token) marks marks c.args.token c.args.token c.first_from.result c.run_from.result c.marks-marks.ensures.marks.rise
    refl refl c.first_from.ensures.apart c.run_from.ensures.value
    ∙ c.marks-marks.ensures.marks.all c.args.token
