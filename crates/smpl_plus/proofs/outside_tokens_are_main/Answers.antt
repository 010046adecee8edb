use Rattle.smpl_plus.proofs.Splitting.{outside-is-main}
use Rattle.smpl_plus.proofs.outside_tokens_are_main.Goals as goal

pub returns : goal.returns
returns c = λ ps. outside-is-main ps
