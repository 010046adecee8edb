use Rattle.std.proofs.Common.{◌≡◌, ◌++◌, drop}
use Rattle.edit_marks.specs.EditConflict.Marks.{removal_marks}
use Rattle.edit_marks.proofs.edit_conflict.mark.push_removals.Given as goal

abbrev pub invariant-loop-token : goal.invariant-loop-token
invariant-loop-token l = l.marks.items ++ removal_marks l.edit (drop l.token-index l.tokens) ≡ l.initial.marks.items ++ removal_marks l.edit l.tokens
