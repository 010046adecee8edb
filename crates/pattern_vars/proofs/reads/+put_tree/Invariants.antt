use Rattle.std.proofs.Common.{◌≡◌, ◌||◌, drop, map}
use Rattle.std.specs.List.{list_any}
use Rattle.smpl_terms.specs.declared.var.Var.{Var as Variable}
use Rattle.c_terms.specs.Trees.{join, leaves}
use Rattle.pattern_vars.specs.Reads.{has, reads_token}
use Rattle.pattern_vars.proofs.reads.+put_tree.Given as goal

abbrev pub invariant-loop-child : goal.invariant-loop-child
invariant-loop-child l = (y : Variable) →
    (has l.set y || list_any (reads_token l.decls l.tokens l.plus y) (join (map leaves (drop l.child-index l.child-items))))
    ≡ (has l.initial.set y || list_any (reads_token l.decls l.tokens l.plus y) (leaves l.tree))
