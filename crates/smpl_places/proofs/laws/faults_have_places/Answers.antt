use Rattle.smpl_places.proofs.PlaceLaws.{fault_some}
use Rattle.smpl_places.proofs.laws.faults_have_places.Goals as goal

pub returns : goal.returns
returns c = λ bytes fault absent. fault_some bytes fault absent
