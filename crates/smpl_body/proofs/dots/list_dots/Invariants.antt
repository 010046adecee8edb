use Rattle.std.proofs.Common.{◌≡◌, ◌++◌, drop, map}
use Rattle.c_terms.specs.Trees.{join}
use Rattle.smpl_body.specs.DotsOf.{list_dots}
use Rattle.smpl_body.proofs.dots.list_dots.Given as goal

abbrev pub invariant-loop-tree : goal.invariant-loop-tree
invariant-loop-tree l = l.found ++ join (map list_dots (drop l.tree-index l.trees)) ≡ join (map list_dots l.trees)
