-- The limits of ranges and of their trees.
use Rattle.std.specs.Prelude.{ℕ}

-- the number of levels of branches that a tree may have
abbrev pub most_levels : ℕ
most_levels = 1000

-- the number of brackets that may be open at once in a range
abbrev pub most_open : ℕ
most_open = 200
