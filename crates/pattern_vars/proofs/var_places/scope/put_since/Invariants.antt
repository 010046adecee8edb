use Rattle.std.proofs.Common.{◌≡◌, ◌++◌, take}
use Rattle.pattern_vars.proofs.var_places.scope.put_since.Given as goal

abbrev pub invariant-loop-x : goal.invariant-loop-x
invariant-loop-x l = l.found ≡ l.initial.found ++ take l.x-index l.x-items
