use Rattle.std.proofs.Common.{◌≡◌, ◌+◌, ◌++◌, drop}
use Rattle.tidy_flags.specs.Lines.{left_of_lines}
use Rattle.tidy_flags.proofs.lines.left_of.Given as goal

abbrev pub invariant-loop-i : goal.invariant-loop-i
invariant-loop-i l = l.left.items ++ left_of_lines (drop (l.at + l.i) l.flags) (drop l.i l.text) ≡ left_of_lines (drop l.at l.flags) l.text
