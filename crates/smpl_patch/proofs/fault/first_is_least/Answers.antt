use Rattle.smpl_patch.proofs.FaultLemmas.{is_first_of}
use Rattle.smpl_patch.proofs.fault.first_is_least.Goals as goal

pub returns : goal.returns
returns c = is_first_of
