use Rattle.std.proofs.Common.{map}
use Rattle.std.specs.List.{range_with_len}
use Rattle.ctl_formula.specs.Tables.{plains}
use Rattle.ctl_table.specs.Settings.{MakesAll}
use Rattle.ctl_table.specs.Columns.{first_of_column}
use Rattle.ctl_table.proofs.each.first_branches.Given as goal

abbrev pub invariant-loop-j : goal.invariant-loop-j
invariant-loop-j l =
    MakesAll l.initial.parts l.parts l.made.items
    (map (first_of_column (plains l.initial.parts) l.rows l.ends l.last) (range_with_len 0 l.j))
