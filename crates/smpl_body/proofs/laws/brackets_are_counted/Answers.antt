use Rattle.smpl_body.proofs.DeepLemmas.{few-open, no-fault, first-too-many}
use Rattle.smpl_body.proofs.laws.brackets_are_counted.Goals as goal

pub returns : goal.returns
returns c = record { count = λ ps. (few-open ps, no-fault ps); first = first-too-many }
