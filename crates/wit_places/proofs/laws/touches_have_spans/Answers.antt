use Rattle.wit_places.proofs.CountLemmas.{spans_counted}
use Rattle.wit_places.proofs.laws.touches_have_spans.Goals as goal

pub returns : goal.returns
returns c = spans_counted
