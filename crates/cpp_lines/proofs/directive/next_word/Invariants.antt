use Rattle.std.proofs.Common.{length, ◌-◌, ◌≤◌}
use Rattle.cpp_lines.proofs.Words.{NoWordTo}
use Rattle.cpp_lines.proofs.directive.next_word.Given as goal

abbrev pub invariant-loop-at : goal.invariant-loop-at
invariant-loop-at l = (l.at ≤ length l.text) × NoWordTo l.text l.at

abbrev pub decreases-loop-at : goal.decreases-loop-at
decreases-loop-at l = length l.text - l.at
