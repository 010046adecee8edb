use Rattle.std.proofs.Common.{◌≡◌, drop}
use Rattle.edit_marks.specs.Tidy.Brackets.{first_token}
use Rattle.edit_marks.proofs.tidy.brackets.first_token.Given as goal

abbrev pub invariant-loop-word : goal.invariant-loop-word
invariant-loop-word l = first_token (drop l.word-index l.words) l.right ≡ first_token l.words l.right
