use Rattle.std.proofs.Common.{◌≡◌, ◌++◌, drop, map}
use Rattle.c_terms.specs.Trees.{join}
use Rattle.smpl_body.specs.DotsOf.{edges}
use Rattle.smpl_body.specs.Bodies.{nested_hosts}
use Rattle.smpl_body.proofs.edges.all_edges.Given as goal

abbrev pub invariant-loop-tree : goal.invariant-loop-tree
invariant-loop-tree l = l.found ++ join (map edges (drop l.tree-index l.trees)) ≡ nested_hosts l.codes ++ join (map edges l.trees)
