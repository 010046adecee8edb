use Rattle.std.proofs.Common.{ap, ◌∙◌}
use Rattle.c_types.specs.Types.{same_type}
use Rattle.type_laws.proofs.SameLemmas.{type-equal, type-refl}
use Rattle.type_laws.proofs.wanted.same_types_are_equal.Goals as goal

pub returns : goal.returns
returns c = λ s t. (type-equal s t, λ e. ap (λ u. same_type u t) e ∙ type-refl t)
