use Rattle.rule_chain.proofs.PassLemmas.{chain_still}
use Rattle.rule_chain.proofs.AlikeLemmas.{all_alike, told_alike}
use Rattle.rule_chain.proofs.laws.unread_changes_notes_alone.Goals as goal

pub returns-clause-passed : goal.returns-clause-passed
returns-clause-passed c = chain_still

pub returns-clause-alike : goal.returns-clause-alike
returns-clause-alike c = all_alike c.chain_has_one_end.ensures

pub returns-clause-told : goal.returns-clause-told
returns-clause-told c = told_alike c.chain_has_one_end.ensures
