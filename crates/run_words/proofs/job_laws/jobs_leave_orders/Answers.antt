use Rattle.run_words.proofs.JobLaws.JobLemmas.{order_same}
use Rattle.run_words.proofs.JobLaws.FaultLemmas.{fault_same}
use Rattle.run_words.proofs.job_laws.jobs_leave_orders.Goals as goal

pub returns : goal.returns
returns c = record { order = order_same; fault = fault_same }
