use Rattle.std.proofs.Common.{take}
use Rattle.ctl_table.specs.Table as table
use Rattle.ctl_table.specs.Settings.{parts_at, MakesAll}
use Rattle.ctl_table.proofs.wrap.in_branches.Given as goal

abbrev pub invariant-loop-i : goal.invariant-loop-i
invariant-loop-i l =
    MakesAll l.initial.parts l.parts l.made.items (table.in_branches 0 (parts_at l.initial.parts (take l.i l.inside)))
