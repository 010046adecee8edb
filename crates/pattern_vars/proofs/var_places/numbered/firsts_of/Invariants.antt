use Rattle.std.proofs.Common.{◌≤◌, drop, length}
use Rattle.pattern_vars.specs.VarPlaces.Scopes.{AreFirsts}
use Rattle.pattern_vars.proofs.var_places.numbered.firsts_of.Given as goal

abbrev pub invariant-loop-i : goal.invariant-loop-i
invariant-loop-i l = (l.i ≤ length l.vars) × AreFirsts l.firsts.entries l.i (drop l.i l.vars)

abbrev pub decreases-loop-i : goal.decreases-loop-i
decreases-loop-i l = l.i
