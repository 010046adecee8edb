use Rattle.std.proofs.Common.{◌≡◌, ◌++◌, drop}
use Rattle.pattern_vars.specs.VarPlaces.Homes.{all_here}
use Rattle.pattern_vars.proofs.var_places.place.all_here.Given as goal

abbrev pub invariant-loop-share : goal.invariant-loop-share
invariant-loop-share l = l.all.items ++ all_here (drop l.share-index l.shares) ≡ all_here l.shares
