use Rattle.ctl_fixpoint.proofs.CtlHolds.PartLemmas.{has_number}
use Rattle.ctl_fixpoint.proofs.ctl_holds.laws.every_part_has_a_number.Goals as goal

pub returns : goal.returns
returns c = has_number
