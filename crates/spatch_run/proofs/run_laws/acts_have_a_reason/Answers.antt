use Rattle.spatch_run.proofs.RunLaws.Why.{acts_why}
use Rattle.spatch_run.proofs.RunLaws.Ways.{ways_are_acts}
use Rattle.spatch_run.proofs.run_laws.acts_have_a_reason.Goals as goal

pub returns : goal.returns
returns c = record { reason = acts_why; ways = ways_are_acts }
