use Rattle.ctl_fixpoint.proofs.CtlHolds.BoundLemmas.{bound_values}
use Rattle.ctl_fixpoint.proofs.ctl_holds.laws.bound_variables_have_values.Goals as goal

pub returns : goal.returns
returns c = bound_values
