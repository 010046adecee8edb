-- A run works on the same shelf and outputs from call to call.
use Rattle.std.proofs.Common.{◌∙◌, refl}
use Rattle.run_acts.specs.declared.places.Outside.{Outside}
use Rattle.run_acts.specs.Places.{SamePlaces}

pub SamePlaces-refl : {S O E : Type 0} (a : Outside S O E) → SamePlaces a a
SamePlaces-refl a = (refl, (refl, refl))

pub SamePlaces-then : {S O E : Type 0} (a b c : Outside S O E) → SamePlaces a b → SamePlaces b c → SamePlaces a c
SamePlaces-then a b c one two = (two.0 ∙ one.0, (two.1.0 ∙ one.1.0, two.1.1 ∙ one.1.1))
