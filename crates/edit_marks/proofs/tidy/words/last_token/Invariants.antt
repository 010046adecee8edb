use Rattle.std.proofs.Common.{◌≡◌, drop}
use Rattle.std.specs.Prelude.{None}
use Rattle.std.specs.Option.{option_copied}
use Rattle.edit_marks.specs.Tidy.Layout.{last_word}
use Rattle.edit_marks.proofs.tidy.words.last_token.Given as goal

abbrev pub invariant-loop-word : goal.invariant-loop-word
invariant-loop-word l = last_word (option_copied l.last) (drop l.word-index l.words) ≡ last_word None l.words
