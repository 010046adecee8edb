use Rattle.rule_chain.proofs.ToldLemmas.{chain_some}
use Rattle.rule_chain.proofs.note_laws.told_notes_are_some.Goals as goal

pub returns : goal.returns
returns c = chain_some
