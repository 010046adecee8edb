use Rattle.rule_chain.proofs.EditLaws.FairLemmas.{fair_edits}
use Rattle.rule_chain.proofs.edit_laws.laws.plain_inserts_are_fair.Goals as goal

pub returns : goal.returns
returns c = fair_edits
