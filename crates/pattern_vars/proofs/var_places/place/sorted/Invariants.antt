use Rattle.std.proofs.Common.{◌≡◌, take}
use Rattle.smpl_patch.specs.Bodies.{body}
use Rattle.pattern_vars.specs.VarPlaces.Places.{reading_at}
use Rattle.pattern_vars.specs.VarPlaces.Homes.{home_in, shares_from}
use Rattle.pattern_vars.proofs.var_places.place.sorted.Given as goal

abbrev pub invariant-loop-x : goal.invariant-loop-x
invariant-loop-x l = l.found.items ≡ shares_from (home_in (reading_at l.reader) 0 (body l.b)) 0 (body l.b) (take l.x-index l.vars)
