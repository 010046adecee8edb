use Rattle.read_laws.proofs.ReadEnds.FormLemmas.{forms_end}
use Rattle.read_laws.proofs.read_ends.laws.patches_get_their_forms.Goals as goal

pub returns : goal.returns
returns c = λ isos patch. forms_end isos patch
