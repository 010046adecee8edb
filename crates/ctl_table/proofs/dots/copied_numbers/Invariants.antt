use Rattle.std.proofs.Common.{◌≡◌, take}
use Rattle.ctl_table.proofs.dots.copied_numbers.Given as goal

abbrev pub invariant-loop-n : goal.invariant-loop-n
invariant-loop-n l = l.copies.items ≡ take l.n-index l.numbers
