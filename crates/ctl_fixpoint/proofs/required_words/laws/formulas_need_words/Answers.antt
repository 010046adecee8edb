use Rattle.ctl_fixpoint.proofs.RequiredWords.HoldWords.{holds_no, Holds_no}
use Rattle.ctl_fixpoint.proofs.required_words.laws.formulas_need_words.Goals as goal

pub returns-clause-holding : goal.returns-clause-holding
returns-clause-holding c = Holds_no

pub returns-clause-computed : goal.returns-clause-computed
returns-clause-computed c = holds_no
