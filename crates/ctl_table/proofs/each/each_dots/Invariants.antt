use Rattle.std.proofs.Common.{take}
use Rattle.ctl_formula.specs.Tables.{plains}
use Rattle.ctl_table.specs.Table as table
use Rattle.ctl_table.specs.Settings.{setting_at, follow, dots_before, MakesFollows}
use Rattle.ctl_table.proofs.each.each_dots.Given as goal

abbrev pub invariant-loop-next : goal.invariant-loop-next
invariant-loop-next l =
    MakesFollows (setting_at l.m) l.initial.parts l.parts (take l.next-index l.nexts) l.made.items
    (λ n. table.Dots)
    (λ n. dots_before (plains l.initial.parts) (setting_at l.m) l.d (follow l.initial.parts l.m n) l.scope)
