use Rattle.std.proofs.Common.{◌≡◌, ◌++◌, drop}
use Rattle.smpl_body.specs.DotsOf.{branch_ends}
use Rattle.smpl_body.proofs.edges.put_branch_ends.Given as goal

abbrev pub invariant-loop-tree : goal.invariant-loop-tree
invariant-loop-tree l = l.found ++ branch_ends (drop l.tree-index l.trees) ≡ l.initial.found ++ branch_ends l.trees
