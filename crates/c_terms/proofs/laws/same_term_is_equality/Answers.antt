use Rattle.std.proofs.Common.{sym, ◌∙◌}
use Rattle.c_terms.proofs.BareLaws.{same-bare, bare-same}
use Rattle.c_terms.proofs.SameLaws.{tree-refl, tree-sym, tree-along}
use Rattle.c_terms.proofs.laws.same_term_is_equality.Goals as goal

pub returns-clause-ids_aside : goal.returns-clause-ids_aside
returns-clause-ids_aside c = λ t u. (λ h. same-bare t u h, λ e. bare-same t u e)

pub returns-clause-reflexive : goal.returns-clause-reflexive
returns-clause-reflexive c = tree-refl

pub returns-clause-symmetric : goal.returns-clause-symmetric
returns-clause-symmetric c = tree-sym

pub returns-clause-transitive : goal.returns-clause-transitive
returns-clause-transitive c = λ t u v h k. sym (tree-along u v k t) ∙ h
