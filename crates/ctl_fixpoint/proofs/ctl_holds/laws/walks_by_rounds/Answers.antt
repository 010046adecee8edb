use Rattle.ctl_fixpoint.proofs.CtlHolds.HoldLemmas.{holds_decides}
use Rattle.ctl_fixpoint.proofs.ctl_holds.laws.walks_by_rounds.Goals as goal

pub returns : goal.returns
returns c = holds_decides
