use Rattle.std.proofs.Common.{subst}
use Rattle.edit_marks.specs.EditConflict.Once.{Differ}
use Rattle.edit_marks.proofs.EditConflict.Distinct.{differ}
use Rattle.edit_marks.proofs.edit_conflict.list.EditList.edits.Goals as goal

pub returns-clause-differ : goal.returns-clause-differ
returns-clause-differ c = subst Differ c.self.view_is (differ c.self.inside.edits.keys c.as_slice.ensures.unique)
