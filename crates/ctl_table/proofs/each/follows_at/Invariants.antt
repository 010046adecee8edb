use Rattle.std.proofs.Common.{map, take}
use Rattle.ctl_formula.specs.Tables.{plains}
use Rattle.ctl_table.specs.Settings.{setting_at, next_at, MakesAll}
use Rattle.ctl_table.proofs.each.follows_at.Given as goal

abbrev pub invariant-loop-next : goal.invariant-loop-next
invariant-loop-next l =
    MakesAll l.initial.parts l.parts l.made.items
    (map (λ n. next_at (plains l.initial.parts) (setting_at l.m) n l.scope) (take l.next-index l.nexts))
