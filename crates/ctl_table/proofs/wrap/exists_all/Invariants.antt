use Rattle.std.proofs.Common.{◌≤◌, drop, length}
use Rattle.ctl_formula.specs.Tables.{at, plains, Makes}
use Rattle.ctl_table.specs.Table as table
use Rattle.ctl_table.proofs.wrap.exists_all.Given as goal

abbrev pub invariant-loop-i : goal.invariant-loop-i
invariant-loop-i l =
    Makes l.initial.parts l.parts l.found (table.exists_all (drop l.i l.vars) (at (plains l.initial.parts) l.f)) × (l.i ≤ length l.vars)

abbrev pub decreases-loop-i : goal.decreases-loop-i
decreases-loop-i l = l.i
