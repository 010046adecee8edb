use Rattle.pat_match.proofs.HeldLaw.{held_has_value}
use Rattle.pat_match.proofs.laws.sure_variables_have_values.Goals as goal

pub returns : goal.returns
returns c = held_has_value
