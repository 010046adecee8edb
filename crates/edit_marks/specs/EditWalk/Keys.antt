-- Numbers of keys.
use Rattle.std.specs.Prelude.{ℕ, eqb, Option, List}
use Rattle.std.specs.List.{position_from}

-- the number of a key among keys, the first if the key occurs several times
abbrev pub number_of : List ℕ → ℕ → Option ℕ
number_of keys key = position_from (λ k. eqb k key) 0 keys
