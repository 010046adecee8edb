use Rattle.insert_laws.proofs.TermLaws.BoundLemmas.{bound_terms}
use Rattle.insert_laws.proofs.term_laws.laws.bound_metavariables_have_terms.Goals as goal

pub returns : goal.returns
returns c = bound_terms
