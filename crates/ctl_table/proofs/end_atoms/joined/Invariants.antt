use Rattle.std.proofs.Common.{◌≡◌, ◌++◌, take}
use Rattle.ctl_table.proofs.end_atoms.joined.Given as goal

abbrev pub invariant-loop-x : goal.invariant-loop-x
invariant-loop-x l = l.all ≡ l.vars ++ take l.x-index l.more
