use Rattle.std.proofs.Common.{map, take}
use Rattle.ctl_formula.specs.Tables.{at, plains}
use Rattle.ctl_table.specs.Table as table
use Rattle.ctl_table.specs.Settings.{follow, MakesAll}
use Rattle.ctl_table.proofs.each.joined_each.Given as goal

abbrev pub invariant-loop-next : goal.invariant-loop-next
invariant-loop-next l =
    MakesAll l.initial.parts l.parts l.made.items
    (map (λ n. table.joined l.m.forall_walks l.statement (at (plains l.initial.parts) l.f)
    (follow l.initial.parts l.m n).start ((follow l.initial.parts l.m n).at l.scope)) (take l.next-index l.nexts))
