use Rattle.std.proofs.Common.{map, take}
use Rattle.ctl_formula.specs.Tables.{at, plains}
use Rattle.ctl_table.specs.Table as table
use Rattle.ctl_table.specs.Settings.{parts_at, MakesAll}
use Rattle.ctl_table.proofs.each.and_each.Given as goal

abbrev pub invariant-loop-f : goal.invariant-loop-f
invariant-loop-f l =
    MakesAll l.initial.parts l.parts l.made.items
    (map (λ f. table.and_all (at (plains l.initial.parts) f) (parts_at l.initial.parts l.more)) (take l.f-index l.fs))
