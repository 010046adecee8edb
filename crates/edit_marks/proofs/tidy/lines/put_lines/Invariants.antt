use Rattle.std.proofs.Common.{◌≡◌, ◌≤◌, ◌-◌, ◌++◌, drop, length}
use Rattle.edit_marks.specs.Tidy.Layout.{tidy_lines}
use Rattle.edit_marks.proofs.tidy.lines.put_lines.Given as goal

abbrev pub invariant-loop-number : goal.invariant-loop-number
invariant-loop-number l = record {
  within : l.from ≤ length l.words;
  written : l.out.items ++ tidy_lines l.lead l.joint l.number (l.lines - l.number) (drop l.from l.words)
      ≡ l.initial.out.items ++ tidy_lines l.lead l.joint 0 l.lines l.words;
}
