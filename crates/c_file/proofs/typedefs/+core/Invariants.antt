use Rattle.c_terms.specs.Trees.{levels}
use Rattle.c_file.proofs.typedefs.+core.Given as goal

abbrev pub decreases-core : goal.decreases-core
decreases-core l = levels l.tree.now
