use Rattle.wit_places.proofs.EndLemmas.{ends_loaded}
use Rattle.wit_places.proofs.laws.ends_are_loaded.Goals as goal

pub returns : goal.returns
returns c = ends_loaded
