use Rattle.std.proofs.Common.{◌≡◌, ◌++◌, drop, map}
use Rattle.c_terms.specs.Trees.{join}
use Rattle.smpl_body.specs.DotsOf.{statement_dots}
use Rattle.smpl_body.proofs.dots.statement_dots.Given as goal

abbrev pub invariant-loop-tree : goal.invariant-loop-tree
invariant-loop-tree l = l.found ++ join (map statement_dots (drop l.tree-index l.trees)) ≡ join (map statement_dots l.trees)
