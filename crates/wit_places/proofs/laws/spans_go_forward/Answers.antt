use Rattle.wit_places.proofs.EndLemmas.{goes_forward}
use Rattle.wit_places.proofs.laws.spans_go_forward.Goals as goal

pub returns : goal.returns
returns c = goes_forward
