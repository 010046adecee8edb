use Rattle.std.proofs.Common.{◌≡◌}
use Rattle.pattern_vars.specs.VarPlaces.Homes.{empty_shares}
use Rattle.pattern_vars.proofs.var_places.place.empty_shares.Given as goal

abbrev pub invariant-loop-i : goal.invariant-loop-i
invariant-loop-i l = l.found.items ≡ empty_shares l._i
