use Rattle.std.proofs.Common.{◌≡◌, ◌++◌, drop}
use Rattle.smpl_body.specs.Bodies.{starts_from}
use Rattle.smpl_body.proofs.clauses.starts_from.Given as goal

abbrev pub invariant-loop-tree : goal.invariant-loop-tree
invariant-loop-tree l = l.starts ++ starts_from l.next (drop l.tree-index l.trees) ≡ starts_from l.first l.trees
