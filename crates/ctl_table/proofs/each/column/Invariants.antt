use Rattle.std.proofs.Common.{◌≡◌, take}
use Rattle.ctl_table.specs.Columns.{column}
use Rattle.ctl_table.proofs.each.column.Given as goal

abbrev pub invariant-loop-row : goal.invariant-loop-row
invariant-loop-row l = l.found.items ≡ column l.j (take l.row-index l.rows)
