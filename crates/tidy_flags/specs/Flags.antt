-- Flags of tokens.
use Rattle.std.specs.Prelude.{ℕ, zero, suc, Bool, false, List, get_or}

-- the flag of the token before this one
abbrev pub flag_before : List Bool → ℕ → Bool
flag_before flags zero = false
flag_before flags (suc n) = get_or flags n false
