use Rattle.edit_marks.proofs.Tidied.OneList.{one_tidied_list}
use Rattle.edit_marks.proofs.tidy.laws.witnesses_have_one_tidied_list.Goals as goal

pub returns : goal.returns
returns c = one_tidied_list
