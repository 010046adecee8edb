use Rattle.pattern_vars.proofs.VarPlaces.OrderedLemmas.{IsSoFar}
use Rattle.pattern_vars.proofs.var_places.ordered.at_places.Given as goal

abbrev pub invariant-loop-i : goal.invariant-loop-i
invariant-loop-i l = IsSoFar l.vars l.places l.i-index l.next l.found
