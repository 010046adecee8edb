-- A branch as its rule builds it.
use Rattle.std.proofs.Common.{◌≡◌, ◌+◌, List, map}
use Rattle.c_terms.specs.declared.tree.Tree.{Tree}
use Rattle.c_terms.specs.Trees.{levels, levels_of_all, leaves, join}
use Rattle.c_terms.proofs.TreeLemmas.{levels-Branch, leaves-Branch}
use Rattle.c_rows.specs.declared.rule.Rule.{Rule}
use Rattle.c_rows.specs.Branches.{label_of, build}

pub levels-build : (r : Rule) (cs : List Tree) → levels (build r cs) ≡ levels_of_all cs + 1
levels-build r cs = levels-Branch (label_of r cs) cs

pub leaves-build : (r : Rule) (cs : List Tree) → leaves (build r cs) ≡ join (map leaves cs)
leaves-build r cs = leaves-Branch (label_of r cs) cs
