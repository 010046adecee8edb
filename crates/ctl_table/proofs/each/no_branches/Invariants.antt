use Rattle.std.proofs.Common.{[], map, take}
use Rattle.ctl_table.specs.Table as table
use Rattle.ctl_table.specs.Settings.{MakesAll}
use Rattle.ctl_table.proofs.each.no_branches.Given as goal

abbrev pub invariant-loop-next : goal.invariant-loop-next
invariant-loop-next l =
    MakesAll l.initial.parts l.parts l.made.items (map (λ n. table.any_of []) (take l._next-index l.nexts))
