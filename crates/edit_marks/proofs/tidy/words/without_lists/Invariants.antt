use Rattle.std.proofs.Common.{◌≡◌, ◌++◌, length}
use Rattle.edit_marks.specs.Tidy.Words.{without_lists}
use Rattle.edit_marks.proofs.Tidied.WordLemmas.{closed_if}
use Rattle.edit_marks.proofs.tidy.words.without_lists.Given as goal

abbrev pub invariant-words : goal.invariant-words
invariant-words l = l.kept.items ++ closed_if l.closes (without_lists l.rest) ≡ without_lists l.words

abbrev pub decreases-words : goal.decreases-words
decreases-words l = length l.rest
