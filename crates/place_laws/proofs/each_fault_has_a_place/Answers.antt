use Rattle.place_laws.proofs.FirstFaults.{first_fault_there}
use Rattle.place_laws.proofs.each_fault_has_a_place.Goals as goal

pub returns : goal.returns
returns c = first_fault_there c.patch_is_read_once.ensures.text
