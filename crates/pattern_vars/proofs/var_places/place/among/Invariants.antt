use Rattle.std.proofs.Common.{◌≡◌, take}
use Rattle.std.specs.List.{filter}
use Rattle.pattern_vars.specs.Reads.{has}
use Rattle.pattern_vars.proofs.var_places.place.among.Given as goal

abbrev pub invariant-loop-x : goal.invariant-loop-x
invariant-loop-x l = l.found ≡ filter (has l.set) (take l.x-index l.vars)
