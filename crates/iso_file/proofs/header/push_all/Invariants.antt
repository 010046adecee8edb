use Rattle.std.proofs.Common.{◌≡◌, ◌++◌, drop}
use Rattle.iso_file.proofs.header.push_all.Given as goal

abbrev pub invariant-loop-t : goal.invariant-loop-t
invariant-loop-t l = l.out ++ drop l.t-index l.tokens ≡ l.initial.out ++ l.tokens
