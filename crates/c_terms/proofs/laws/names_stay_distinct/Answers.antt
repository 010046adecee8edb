use Rattle.c_terms.proofs.NamesLemmas.{distinct-added, listed-distinct}
use Rattle.c_terms.proofs.laws.names_stay_distinct.Goals as goal

pub returns-clause-listed : goal.returns-clause-listed
returns-clause-listed c = listed-distinct

pub returns-clause-added : goal.returns-clause-added
returns-clause-added c = distinct-added
