-- Which values a bound allows.
use Rattle.std.specs.Prelude.{Bool, true, false, not, Option, Some, None}
use Rattle.std.specs.List.{list_any}
use Rattle.smpl_terms.specs.declared.value.Value.{Value}
use Rattle.smpl_terms.specs.Values.{same}
use Rattle.env_sets.specs.declared.bounds.Bound.{Bound}
use Rattle.env_sets.specs.declared.bounds.Bound.TheVariants.{Is, Not}

abbrev pub fits : Value → Bound → Bool
fits x (Is v) = same v x
fits x (Not vs) = not (list_any (λ v. same v x) vs)

abbrev pub option_fits : Value → Option Bound → Bool
option_fits x None = false
option_fits x (Some b) = fits x b

abbrev pub is_not : Bound → Bool
is_not (Is v) = false
is_not (Not vs) = true
