use Rattle.std.proofs.Common.{◌≡◌, ◌++◌, drop}
use Rattle.run_files.specs.RunLines.Summary.{rule_lines}
use Rattle.run_files.proofs.run_lines.sums.summary.Given as goal

abbrev pub invariant-loop-number : goal.invariant-loop-number
invariant-loop-number l = l.line ++ rule_lines l.number (drop l.number l.rules) l.witnesses ≡ l.initial.line ++ rule_lines 0 l.rules l.witnesses
