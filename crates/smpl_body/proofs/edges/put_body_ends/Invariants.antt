use Rattle.std.proofs.Common.{◌≡◌, ◌++◌, drop}
use Rattle.smpl_body.specs.DotsOf.{body_ends}
use Rattle.smpl_body.proofs.edges.put_body_ends.Given as goal

abbrev pub invariant-loop-tree : goal.invariant-loop-tree
invariant-loop-tree l = l.found ++ body_ends (drop l.tree-index l.trees) ≡ l.initial.found ++ body_ends l.trees
