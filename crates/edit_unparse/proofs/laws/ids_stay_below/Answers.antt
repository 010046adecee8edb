use Rattle.edit_unparse.proofs.IdLemmas.{ids_below}
use Rattle.edit_unparse.proofs.laws.ids_stay_below.Goals as goal

pub returns : goal.returns
returns c = record { below = ids_below }
