use Rattle.insert_laws.proofs.ScopeLaws.BlockLemmas.{formula_hides}
use Rattle.insert_laws.proofs.scope_laws.laws.blocks_are_hidden.Goals as goal

pub returns : goal.returns
returns c = formula_hides
