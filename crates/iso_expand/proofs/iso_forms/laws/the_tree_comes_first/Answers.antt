use Rattle.iso_expand.proofs.IsoForms.FirstLemmas.{first_form}
use Rattle.iso_expand.proofs.iso_forms.laws.the_tree_comes_first.Goals as goal

pub returns : goal.returns
returns c = first_form
