use Rattle.run_files.proofs.RefusalLemmas.{ends_say_why}
use Rattle.run_files.proofs.laws.refusals_say_why.Goals as goal

pub returns : goal.returns
returns c = ends_say_why
