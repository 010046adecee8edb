use Rattle.insert_laws.proofs.ScopeLaws.CoverLemmas.{formula_covers}
use Rattle.insert_laws.proofs.scope_laws.laws.atoms_have_their_variables.Goals as goal

pub returns : goal.returns
returns c = formula_covers
