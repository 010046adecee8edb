use Rattle.insert_laws.proofs.AlignedLaws.SpotLemmas.{pairs_compared}
use Rattle.insert_laws.proofs.aligned_laws.laws.aligned_tokens_are_compared.Goals as goal

pub returns : goal.returns
returns c = pairs_compared
