use Rattle.std.proofs.Common.{◌≡◌, drop}
use Rattle.c_file.specs.Typedefs.{with_cores}
use Rattle.c_file.proofs.typedefs.add_cores.Given as goal

abbrev pub invariant-loop-tree : goal.invariant-loop-tree
invariant-loop-tree l = with_cores l.names (drop l.tree-index l.trees) ≡ with_cores l.initial.names l.trees
