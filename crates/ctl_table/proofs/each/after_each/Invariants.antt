use Rattle.std.proofs.Common.{map, take}
use Rattle.ctl_formula.specs.Plain.{And, After}
use Rattle.ctl_formula.specs.Tables.{at, plains}
use Rattle.ctl_table.specs.Settings.{follow, MakesAll}
use Rattle.ctl_table.proofs.each.after_each.Given as goal

abbrev pub invariant-loop-next : goal.invariant-loop-next
invariant-loop-next l =
    MakesAll l.initial.parts l.parts l.made.items
    (map (λ n. And (at (plains l.initial.parts) l.f) (After ((follow l.initial.parts l.m n).at l.scope))) (take l.next-index l.nexts))
