use Rattle.std.proofs.Common.{take}
use Rattle.ctl_formula.specs.Tables.{at, plains}
use Rattle.ctl_table.specs.Table as table
use Rattle.ctl_table.specs.Settings.{setting_at, MakesFollows}
use Rattle.ctl_table.proofs.each.part_each.Given as goal

abbrev pub invariant-loop-f : goal.invariant-loop-f
invariant-loop-f l =
    MakesFollows (setting_at l.m) l.initial.parts l.parts (take l.f-index l.fs) l.made.items
    (λ f. table.Other) (λ f b t. table.exists_all l.place.here (at (plains l.initial.parts) f))
