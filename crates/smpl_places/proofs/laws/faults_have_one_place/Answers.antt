use Rattle.smpl_places.proofs.PlaceLaws.{fault_once}
use Rattle.smpl_places.proofs.laws.faults_have_one_place.Goals as goal

pub returns : goal.returns
returns c = λ bytes fault one other a b.
    fault_once c.patch_is_read_once.ensures.text c.heads_are_read_once.ensures.once c.patch_is_read_once.ensures.headers bytes
    fault one other a b
