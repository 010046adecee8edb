use Rattle.c_places.proofs.StartLemmas.{places_once}
use Rattle.c_places.proofs.laws.places_are_one.Goals as goal

pub returns : goal.returns
returns c = places_once c.cut_once.ensures.whole
