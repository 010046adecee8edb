use Rattle.std.proofs.Common.{refl}
use Rattle.smpl_notes.specs.Notes.{notes}
use Rattle.smpl_notes.proofs.laws.patches_have_notes.Goals as goal

pub returns : goal.returns
returns c = λ bytes text patch is_text. (notes bytes text patch.rules, record { text = text; is_text = is_text; are = refl })
