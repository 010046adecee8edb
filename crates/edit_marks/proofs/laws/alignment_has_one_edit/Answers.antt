use Rattle.edit_marks.proofs.OneEdit.{one_edit}
use Rattle.edit_marks.proofs.laws.alignment_has_one_edit.Goals as goal

pub returns : goal.returns
returns c = one_edit
