use Rattle.std.proofs.Common.{◌≡◌}
use Rattle.text_places.specs.Places.{place_of}
use Rattle.text_places.proofs.places.place_from.Given as goal

abbrev pub invariant-loop-i : goal.invariant-loop-i
invariant-loop-i l = l.place ≡ place_of l.text l.i
