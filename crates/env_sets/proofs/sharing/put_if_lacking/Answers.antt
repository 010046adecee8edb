use Rattle.env_sets.proofs.RunLemmas.{had_value}
use Rattle.env_sets.proofs.sharing.put_if_lacking.Goals as goal

pub returns-then-is_covered-clause-meaning : goal.returns-then-is_covered-clause-meaning
returns-then-is_covered-clause-meaning c = λ env. had_value _ _ _ (λ k. c.is_covered.ensures c.if-is_covered.true env k)
