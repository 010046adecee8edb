use Rattle.std.proofs.Common.{◌≡◌, ◌++◌, drop}
use Rattle.std.specs.Prelude.{None}
use Rattle.edit_marks.specs.Tidy.Layout.{words_text, without_lead}
use Rattle.edit_marks.proofs.tidy.lines.put_words.Given as goal

abbrev pub invariant-loop-word : goal.invariant-loop-word
invariant-loop-word l = l.out.items ++ words_text l.beside (without_lead l.lead (drop l.word-index l.words))
    ≡ l.initial.out.items ++ words_text None (without_lead l.initial.lead l.words)
