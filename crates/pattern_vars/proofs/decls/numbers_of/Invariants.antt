use Rattle.std.proofs.Common.{drop, map, ◌≤◌, length}
use Rattle.pattern_vars.specs.Index.{Finds}
use Rattle.pattern_vars.proofs.decls.numbers_of.Given as goal

abbrev pub invariant-loop-i : goal.invariant-loop-i
invariant-loop-i l = (l.i ≤ length l.decls) × Finds (map (λ e. (e.0.items, e.1)) l.numbers.entries) l.decls (drop l.i l.decls)

abbrev pub decreases-loop-i : goal.decreases-loop-i
decreases-loop-i l = l.i
