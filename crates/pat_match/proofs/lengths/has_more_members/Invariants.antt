use Rattle.std.proofs.Common.{◌≡◌, ◌+◌, drop, length}
use Rattle.c_terms.specs.Lists.{members}
use Rattle.pat_match.proofs.lengths.has_more_members.Given as goal

abbrev pub invariant-loop-tree : goal.invariant-loop-tree
invariant-loop-tree l = l.count + length (members (drop l.tree-index l.trees)) ≡ l.left + length (members l.trees)
