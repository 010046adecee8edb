use Rattle.smpl_body.proofs.SmplWhen.Machine.{cut-is}
use Rattle.smpl_body.proofs.SmplWhen.Once.{parted_once}
use Rattle.smpl_body.proofs.smpl_when.bodies_are_parted_once.Goals as goal

pub returns-clause-cut : goal.returns-clause-cut
returns-clause-cut c = λ ps. cut-is ps

pub returns-clause-once : goal.returns-clause-once
returns-clause-once c = λ ps one other d e. parted_once one other d e
