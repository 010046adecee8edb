use Rattle.std.proofs.Common.{◌≡◌, ◌++◌, drop, length}
use Rattle.edit_marks.specs.Tidy.Words.{words_of_line}
use Rattle.edit_marks.proofs.tidy.words.put_line_words.Given as goal

abbrev pub invariant-loop-i : goal.invariant-loop-i
invariant-loop-i l = record {
  end : l.i-end ≡ length l.tokens;
  written : l.words.items ++ words_of_line l.decls l.env l.number (drop l.i l.gaps) (drop l.i l.tokens)
      ≡ l.initial.words.items ++ words_of_line l.decls l.env l.number l.gaps l.tokens;
}
