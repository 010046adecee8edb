use Rattle.std.proofs.Common.{◌≡◌, true, ◌||◌, drop, length}
use Rattle.std.specs.List.{list_any}
use Rattle.smpl_terms.specs.declared.var.Var.{Var as Variable}
use Rattle.smpl_patch.specs.Held.{is_held, kept}
use Rattle.smpl_patch.specs.Patterns.{is_sure}
use Rattle.pattern_vars.specs.Reads.{has, is_declared}
use Rattle.pattern_vars.proofs.sure.put_sure_kept.Given as goal

abbrev pub invariant-loop-i : goal.invariant-loop-i
invariant-loop-i l = (y : Variable) → is_declared l.decls y ≡ true →
    (has l.set y || list_any (is_sure l.decls l.tokens y) (kept (is_held l.spot l.label (length l.trees)) l.i (drop l.i l.trees)))
    ≡ (has l.initial.set y || list_any (is_sure l.decls l.tokens y) (kept (is_held l.spot l.label (length l.trees)) 0 l.trees))
