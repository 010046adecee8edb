use Rattle.edit_marks.proofs.EditWalk.OneList.{one_list}
use Rattle.edit_marks.proofs.edit_walk.laws.witnesses_have_one_list.Goals as goal

pub returns : goal.returns
returns c = one_list
