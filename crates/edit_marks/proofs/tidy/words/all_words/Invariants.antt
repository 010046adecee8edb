use Rattle.std.proofs.Common.{◌≡◌, ◌++◌, drop}
use Rattle.edit_marks.specs.Blocks.{AreEven}
use Rattle.edit_marks.specs.Tidy.Words.{words_from}
use Rattle.edit_marks.proofs.tidy.words.all_words.Given as goal

abbrev pub invariant-loop-number : goal.invariant-loop-number
invariant-loop-number l = record {
  even : AreEven (drop l.number l.lines);
  written : l.words.items ++ words_from l.decls l.env l.number (drop l.number l.lines) ≡ words_from l.decls l.env 0 l.lines;
}
