use Rattle.std.proofs.Common.{take}
use Rattle.ctl_table.specs.Settings.{setting_at, MakesSame}
use Rattle.ctl_table.proofs.each.deeper_each.Given as goal

abbrev pub invariant-loop-next : goal.invariant-loop-next
invariant-loop-next l = MakesSame (setting_at l.m) l.scope l.initial.parts l.parts (take l.next-index l.nexts) l.found.items
