use Rattle.std.proofs.Common.{◌∙◌}
use Rattle.rule_chain.proofs.CutLemmas.{same_text, same_cuts}
use Rattle.rule_chain.proofs.readings.with_ids.Goals as goal

pub returns-clause-text : goal.returns-clause-text
returns-clause-text c =
    same_text c.renumber.result c.in_ok-lexed.lexed c.renumber.ensures.same ∙ c.in_ok-lexed.ensures.0

pub returns-clause-cuts : goal.returns-clause-cuts
returns-clause-cuts c =
    same_cuts c.renumber.result c.in_ok-lexed.lexed c.renumber.ensures.same c.in_ok-lexed.ensures.1.0
