use Rattle.pattern_vars.specs.VarPlaces.Scopes.{joined}
use Rattle.pattern_vars.proofs.VarPlaces.ScopeLemmas.{AreScoped}
use Rattle.pattern_vars.proofs.var_places.place.along.Given as goal

abbrev pub invariant-loop-share : goal.invariant-loop-share
invariant-loop-share l = AreScoped l.shares (joined l.inside.outer) l.inside.vars l.share-index l.count l.found.items
