use Rattle.std.proofs.Common.{◌≡◌, ◌++◌, drop, map}
use Rattle.c_terms.specs.Trees.{join}
use Rattle.smpl_body.proofs.EdgeLemmas.{edges_in}
use Rattle.smpl_body.proofs.edges.+put_edged.Given as goal

abbrev pub invariant-loop-child : goal.invariant-loop-child
invariant-loop-child l = l.found ++ join (map edges_in (drop l.child-index l.child-items)) ≡ l.fn.found ++ edges_in l.tree
