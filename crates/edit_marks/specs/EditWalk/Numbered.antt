-- The numbers of keys in a list.
use Rattle.std.specs.Prelude.{◌≡◌, ℕ, List, Option, None, Some, cond, eqb, nat_eq, nat_lt, get_or, length, if◌then◌else◌}
use Rattle.std.specs.HashMap.{get}
use Rattle.edit_marks.specs.EditWalk.Keys.{number_of}
use Rattle.edit_marks.specs.declared.edit_walk.numbers.Places.{Places}

-- a number below the count; anything else means none
abbrev pub number_in : ℕ → ℕ → Option ℕ
number_in count n = if nat_lt n count then Some n else None

-- the number of a key
abbrev pub found : Places → ℕ → Option ℕ
found p key = if nat_lt key (length p.low.items) then number_in p.count (get_or p.low.items key 0) else get nat_eq p.high key

-- what is known of a key after it, or another key, gets a number
abbrev pub with_number : ℕ → ℕ → ℕ → Option ℕ → Option ℕ
with_number key number k old = cond (eqb key k) (Some number) old

-- the number of each key is known
abbrev pub IsTable : List ℕ → Places → Type 0
IsTable keys p = (key : ℕ) → found p key ≡ number_of keys key
