-- What masks say about many variables: 64 each, by their numbers.
use Rattle.std.specs.Prelude.{ℕ, ◌/◌, ◌%◌, List, Option, None, Some, slice_get}
use Rattle.std.specs.Option.{option_map}
use Rattle.smpl_terms.specs.declared.var.Var.{Var}
use Rattle.pattern_vars.specs.Reads.{number_of}
use Rattle.ctl_translate.specs.declared.ctl_bound.masks.Binds.{Binds}
use Rattle.ctl_translate.specs.declared.ctl_bound.masks.Masks.{Masks}
use Rattle.ctl_translate.specs.declared.ctl_bound.groups.Bindings.{Bindings}
use Rattle.ctl_translate.specs.CtlBound.Bits.{bit_binds}

-- what they say about the variable with a number
abbrev pub said_of : List Masks → Option ℕ → Option Binds
said_of masks None = None
said_of masks (Some k) = option_map (λ m. bit_binds m (k % 64)) (slice_get masks (k / 64))

-- and about a variable
abbrev pub binds_in : Bindings → Var → Option Binds
binds_in found x = said_of found.masks.items (number_of found.vars x)
