-- Which declaration of a name counts.
use Rattle.std.specs.Prelude.{ℕ, List, [], ◌∷◌, Option, None, Some, if◌then◌else◌}
use Rattle.std.specs.Option.{option_or}
use Rattle.c_terms.specs.Same.{same_bytes}
use Rattle.c_types.specs.declared.ty.Ty.{Ty}
use Rattle.c_typing.specs.declared.binding.Binding.{Binding}

abbrev pub own_type : List ℕ → Binding → Option (Option Ty)
own_type name b = if same_bytes name b.name then Some b.ty else None

-- what the last declaration of the name gives: nothing if there is none, and `Some None` if its type isn't known
abbrev pub last_type : List Binding → List ℕ → Option (Option Ty)
last_type [] name = None
last_type (b ∷ bs) name = option_or (last_type bs name) (own_type name b)
