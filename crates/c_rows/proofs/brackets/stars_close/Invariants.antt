use Rattle.std.proofs.Common.{◌≡◌, drop}
use Rattle.c_rows.specs.Look.{stars_close}
use Rattle.c_rows.proofs.brackets.stars_close.Given as goal

abbrev pub invariant-loop-token : goal.invariant-loop-token
invariant-loop-token l = stars_close (drop l.token-index l.rest) ≡ stars_close l.rest
