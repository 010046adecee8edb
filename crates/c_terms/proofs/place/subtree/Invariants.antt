use Rattle.std.proofs.Common.{◌≡◌, drop}
use Rattle.c_terms.specs.Places.{subtree}
use Rattle.c_terms.proofs.place.subtree.Given as goal

abbrev pub invariant-loop-step : goal.invariant-loop-step
invariant-loop-step l = subtree l.found (drop l.step-index l.path) ≡ subtree l.tree l.path
