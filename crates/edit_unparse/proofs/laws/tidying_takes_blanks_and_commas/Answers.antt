use Rattle.edit_unparse.proofs.LastingLemmas.{lasting_stays}
use Rattle.edit_unparse.proofs.laws.tidying_takes_blanks_and_commas.Goals as goal

pub returns : goal.returns
returns c = record { lasting = lasting_stays }
