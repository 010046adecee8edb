use Rattle.row_laws.proofs.Examples.{one_less}
use Rattle.row_laws.proofs.RuleLemmas.{types_agree, trees_agree}
use Rattle.row_laws.proofs.bounds_agree.Goals as goal

pub returns : goal.returns
returns c = record { types = types_agree; trees = trees_agree; least = one_less }
