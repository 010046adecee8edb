use Rattle.c_terms.specs.Names.{listed_names}
use Rattle.c_file.proofs.FitLemmas.{all-fit}
use Rattle.c_file.proofs.file.read_file.Goals as goal

pub invariant_of-result : goal.invariant_of-result
invariant_of-result c = all-fit c.in_ok-visible.visible listed_names _ c.in_ok-items.items.items c.in_ok-items.ensures c.few_are_shown.ensures
