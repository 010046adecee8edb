-- What declares nothing.
use Rattle.std.proofs.Common.{◌≡◌, refl, List, []}
use Rattle.c_terms.specs.declared.label.Label.{Label}
use Rattle.c_terms.specs.declared.label.Label.TheVariants as label
use Rattle.c_terms.specs.declared.tree.Tree.{Tree}
use Rattle.c_typing.specs.Declarations.{param_by}

-- a member of a list that is no parameter
pub param-none : (l : Label) (cs : List Tree) → (l ≡ label.Param → ⊥) → param_by l cs ≡ []
param-none label.Param cs h = absurd (h refl)
param-none _ cs h = refl
