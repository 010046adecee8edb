use Rattle.std.proofs.Common.{◌≡◌, ◌++◌, drop, length}
use Rattle.edit_marks.specs.Tidy.Brackets.{with_brackets}
use Rattle.edit_marks.proofs.tidy.brackets.with_brackets.Given as goal

abbrev pub invariant-loop-i : goal.invariant-loop-i
invariant-loop-i l = record {
  end : l.i-end ≡ length l.words;
  written : l.all.items ++ with_brackets l.left l.outside.right (drop l.i l.words) ≡ with_brackets l.outside.left l.outside.right l.words;
}
