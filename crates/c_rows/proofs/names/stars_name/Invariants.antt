use Rattle.std.proofs.Common.{◌≡◌, drop}
use Rattle.c_rows.specs.Look.{stars_name}
use Rattle.c_rows.proofs.names.stars_name.Given as goal

abbrev pub invariant-loop-i : goal.invariant-loop-i
invariant-loop-i l = stars_name (drop l.i l.rest) ≡ stars_name l.rest
