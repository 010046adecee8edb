use Rattle.std.proofs.Common.{◌≡◌, take}
use Rattle.c_terms.specs.Lists.{run_kids}
use Rattle.c_terms.proofs.list.run_of.Given as goal

abbrev pub invariant-loop-i : goal.invariant-loop-i
invariant-loop-i l = l.children ≡ run_kids (take l.i l.members)
