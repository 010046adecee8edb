use Rattle.run_words.proofs.Numbers.{count_is}
use Rattle.run_words.proofs.words.jobs_in.Goals as goal

pub returns-in-Some-clause-some : goal.returns-in-Some-clause-some
returns-in-Some-clause-some c = (count_is 64 c.args.value.now c.in-Some.jobs c.in-Some.ensures).1.0
