use Rattle.env_sets.proofs.AscendingLemmas.{ascend_last}
use Rattle.env_sets.proofs.ascending.goes_on.Goals as goal

pub returns-then-from-entries : goal.returns-then-from-entries
returns-then-from-entries c = λ h a. ascend_last c.args.entries.now c.args.from c.requires.some c.if-from-entries.true
