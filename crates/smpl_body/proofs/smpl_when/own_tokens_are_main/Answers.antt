use Rattle.smpl_body.proofs.SmplWhen.Outside.{outside-is-split}
use Rattle.smpl_body.proofs.smpl_when.own_tokens_are_main.Goals as goal

pub returns : goal.returns
returns c = λ ps. outside-is-split ps
