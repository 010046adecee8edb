use Rattle.std.proofs.Common.{◌≡◌, ◌+◌, length, drop}
use Rattle.pattern_vars.specs.VarPlaces.Scopes.{joined}
use Rattle.pattern_vars.proofs.var_places.scope.count_of.Given as goal

abbrev pub invariant-loop-link : goal.invariant-loop-link
invariant-loop-link l = l.count + length (joined (drop l.link-index l.links)) ≡ length (joined l.links)
