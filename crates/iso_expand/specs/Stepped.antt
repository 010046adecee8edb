-- Internal: how many more forms are allowed.
use Rattle.std.specs.Prelude.{ℕ, ◌<◌}
use Rattle.iso_expand.specs.declared.iso_forms.fault.FormsFault.{FormsFault}
use Rattle.iso_expand.specs.declared.iso_forms.fault.FormsFault.TheVariants as fault

-- more forms than are still allowed, or out of memory
abbrev pub NoRoom : ℕ → ℕ → FormsFault → Type 0
NoRoom room n fault.TooMany = room < n
NoRoom room n fault.NoMemory = Unit {0}
