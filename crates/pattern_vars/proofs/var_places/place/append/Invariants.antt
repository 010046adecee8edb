use Rattle.std.proofs.Common.{◌≡◌, ◌++◌, take}
use Rattle.pattern_vars.proofs.var_places.place.append.Given as goal

abbrev pub invariant-loop-x : goal.invariant-loop-x
invariant-loop-x l = l.all.items ≡ l.initial.all.items ++ take l.x-index l.more
