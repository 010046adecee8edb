use Rattle.std.proofs.Common.{◌≡◌, ◌++◌, drop}
use Rattle.pattern_vars.specs.VarPlaces.Scopes.{joined}
use Rattle.pattern_vars.proofs.var_places.scope.Scope.since.Given as goal

abbrev pub invariant-loop-link : goal.invariant-loop-link
invariant-loop-link l =
    l.found ++ drop l.left (joined (drop l.link-index l.link-items) ++ l.self-inside.last) ≡ drop l.count (joined l.link-items ++ l.self-inside.last)
