-- The places of numbers in a list.
use Rattle.std.specs.Prelude.{◌≡◌, ℕ, length, List, Option, unwrap_or}
use Rattle.ctl_table.specs.Blocks.{index_of}

-- the first place of each number; a number that isn't in the list has no place, or the list's length as its place
abbrev pub ArePlaces : List ℕ → (ℕ → Option ℕ) → Type 0
ArePlaces numbers place = (n : ℕ) → unwrap_or (place n) (length numbers) ≡ index_of n numbers
