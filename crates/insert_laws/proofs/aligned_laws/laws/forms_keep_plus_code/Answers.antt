use Rattle.insert_laws.proofs.AlignedLaws.FormLemmas.{forms_keep}
use Rattle.insert_laws.proofs.aligned_laws.laws.forms_keep_plus_code.Goals as goal

pub returns : goal.returns
returns c = λ isos tokens q marked s t. forms_keep tokens q marked isos s t
