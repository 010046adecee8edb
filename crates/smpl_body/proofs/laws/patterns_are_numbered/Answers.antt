use Rattle.smpl_body.proofs.NumberLemmas.{tree-numbered}
use Rattle.smpl_body.proofs.laws.patterns_are_numbered.Goals as goal

pub returns : goal.returns
returns c = λ tree dots first. tree-numbered tree dots first
