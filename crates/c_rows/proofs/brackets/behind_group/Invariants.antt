use Rattle.std.proofs.Common.{◌≡◌, ◌≤◌, drop}
use Rattle.c_rows.specs.Look.{behind_group}
use Rattle.c_rows.proofs.brackets.behind_group.Given as goal

abbrev pub invariant-loop-i : goal.invariant-loop-i
invariant-loop-i l = record {
  same : behind_group l.more (drop l.i l.inside) ≡ behind_group 0 l.inside;
  fits : l.more ≤ l.i;
}
