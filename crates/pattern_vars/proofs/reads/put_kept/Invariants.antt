use Rattle.std.proofs.Common.{◌≡◌, ◌||◌, drop, length}
use Rattle.std.specs.List.{list_any}
use Rattle.smpl_terms.specs.declared.var.Var.{Var as Variable}
use Rattle.smpl_patch.specs.Held.{is_held, kept}
use Rattle.pattern_vars.specs.Reads.{has, reads_tree}
use Rattle.pattern_vars.proofs.reads.put_kept.Given as goal

abbrev pub invariant-loop-i : goal.invariant-loop-i
invariant-loop-i l = (y : Variable) →
    (has l.set y || list_any (reads_tree l.decls l.tokens l.plus y) (kept (is_held l.spot l.label (length l.trees)) l.i (drop l.i l.trees)))
    ≡ (has l.initial.set y || list_any (reads_tree l.decls l.tokens l.plus y) (kept (is_held l.spot l.label (length l.trees)) 0 l.trees))
