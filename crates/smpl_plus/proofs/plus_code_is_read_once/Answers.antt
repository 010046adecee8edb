use Rattle.smpl_plus.proofs.PlusOnce.{tokens_once, tokens_or_fault}
use Rattle.smpl_plus.proofs.plus_code_is_read_once.Goals as goal

pub returns : goal.returns
returns c = record { tokens = tokens_once; apart = tokens_or_fault }
