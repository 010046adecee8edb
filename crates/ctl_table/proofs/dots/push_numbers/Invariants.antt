use Rattle.std.proofs.Common.{◌≡◌, ◌++◌, take}
use Rattle.ctl_table.proofs.dots.push_numbers.Given as goal

abbrev pub invariant-loop-n : goal.invariant-loop-n
invariant-loop-n l = l.numbers.items ≡ l.initial.numbers.items ++ take l.n-index l.more
