-- The next id after a new text.
use Rattle.std.specs.Prelude.{ℕ, ◌+◌, not, nat_lt, List, length}
use Rattle.std.specs.List.{filter}

-- if the ids below next were used before and those of the added tokens count up from next: the next id after them
abbrev pub free_id : ℕ → List ℕ → ℕ
free_id next ids = next + length (filter (λ id. not (nat_lt id next)) ids)
