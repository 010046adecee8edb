use Rattle.spatch_run.proofs.RunLaws.Caused.{caused}
use Rattle.spatch_run.proofs.run_laws.statuses_have_a_cause.Goals as goal

pub returns : goal.returns
returns c = caused c.acts_are_one_list.ensures.same c.acts_have_a_reason.ensures.reason c.acts_have_a_reason.ensures.ways
