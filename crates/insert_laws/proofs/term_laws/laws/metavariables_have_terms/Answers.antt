use Rattle.insert_laws.proofs.TermLaws.HeldLemmas.{held_has_term}
use Rattle.insert_laws.proofs.term_laws.laws.metavariables_have_terms.Goals as goal

pub returns : goal.returns
returns c = held_has_term
