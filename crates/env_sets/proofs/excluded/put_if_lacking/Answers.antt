use Rattle.std.proofs.Common.{sym, ◌∙◌}
use Rattle.env_sets.proofs.BoundLemmas.{any_same-along}
use Rattle.env_sets.proofs.RunLemmas.{had_value}
use Rattle.env_sets.proofs.excluded.put_if_lacking.Goals as goal

pub returns-then-have : goal.returns-then-have
returns-then-have c = λ z. had_value _ _ _ (λ s. sym (any_same-along c.args.v.now z s c.args.values.now) ∙ sym c.have.ensures.value ∙ c.if-have.true)
