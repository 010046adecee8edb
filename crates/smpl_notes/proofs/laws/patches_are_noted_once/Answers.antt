use Rattle.std.proofs.Common.{sym, ap, ◌∙◌}
use Rattle.smpl_notes.specs.Notes.{notes}
use Rattle.smpl_notes.proofs.laws.patches_are_noted_once.Goals as goal

pub returns : goal.returns
returns c = λ bytes patch one other a b.
    a.are ∙ ap (λ text. notes bytes text patch.rules) (c.patch_is_read_once.ensures.text bytes a.text b.text a.is_text b.is_text) ∙ sym b.are
