use Rattle.run_words.proofs.OptionLaws.{faults_law}
use Rattle.run_words.proofs.faults.faults_are_all.Goals as goal

pub returns : goal.returns
returns c = faults_law
