use Rattle.std.proofs.Common.{◌≡◌, take}
use Rattle.pattern_vars.proofs.var_places.place.copied_vars.Given as goal

abbrev pub invariant-loop-x : goal.invariant-loop-x
invariant-loop-x l = l.copies ≡ take l.x-index l.vars
