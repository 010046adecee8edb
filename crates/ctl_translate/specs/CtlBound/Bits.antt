-- What masks say about one of their 64 variables.
use Rattle.std.specs.Prelude.{ℕ, Bool, nat_eq}
use Rattle.std.specs.Int.{bit_at}
use Rattle.ctl_translate.specs.declared.ctl_bound.masks.Binds.{Binds}
use Rattle.ctl_translate.specs.declared.ctl_bound.masks.Masks.{Masks}

-- this bit of the number is one
unfoldable pub is_bit : ℕ → ℕ → Bool
is_bit n k = nat_eq (bit_at n k) 1

-- what the masks say about the variable of a bit
abbrev pub bit_binds : Masks → ℕ → Binds
bit_binds m k = record { holding = is_bit m.holding k; failing = is_bit m.failing k; guarded = is_bit m.guarded k }
