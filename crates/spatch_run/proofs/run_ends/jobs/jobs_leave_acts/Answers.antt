use Rattle.spatch_run.proofs.RunEnds.JobLemmas.{acts_same, begun_asked, begun_faulty, comes_same, wrong_words}
use Rattle.spatch_run.proofs.run_ends.jobs.jobs_leave_acts.Goals as goal

pub returns-clause-acts : goal.returns-clause-acts
returns-clause-acts c = λ words others old acts status s asked.
    acts_same words others old acts status (begun_asked c.jobs_leave_orders.ensures.order words others s asked)

pub returns-clause-comes : goal.returns-clause-comes
returns-clause-comes c = λ words others old mid next s asked.
    comes_same words others old mid next (begun_asked c.jobs_leave_orders.ensures.order words others s asked)

pub returns-clause-wrong_acts : goal.returns-clause-wrong_acts
returns-clause-wrong_acts c = λ words others old acts status s texts.
    acts_same words others old acts status (begun_faulty c.jobs_leave_orders.ensures.order c.jobs_leave_orders.ensures.fault words others s texts)

pub returns-clause-wrong_comes : goal.returns-clause-wrong_comes
returns-clause-wrong_comes c = λ words others old mid next s texts.
    comes_same words others old mid next (begun_faulty c.jobs_leave_orders.ensures.order c.jobs_leave_orders.ensures.fault words others s texts)

pub returns-clause-usage : goal.returns-clause-usage
returns-clause-usage c = wrong_words
