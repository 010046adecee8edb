use Rattle.std.proofs.Common.{◌≡◌, take}
use Rattle.c_terms.specs.Lists.{run_kids}
use Rattle.pat_match.proofs.lists.run_tree.Given as goal

abbrev pub invariant-loop-i : goal.invariant-loop-i
invariant-loop-i l = l.children ≡ run_kids (take l.i l.members)
