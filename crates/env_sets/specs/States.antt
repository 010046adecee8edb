-- Sets by subformula and node.
use Rattle.std.specs.Prelude.{◌≡◌, ◌<◌, ℕ, List, [], length, slice_index_or}
use Rattle.env_sets.specs.Sets.{Entries}

-- the rows have the same length
abbrev pub IsEven : List (List Entries) → Type 0
IsEven rows = (i j : ℕ) → i < length rows → j < length rows → length (slice_index_or rows i []) ≡ length (slice_index_or rows j [])

-- the set at a node of a row
abbrev pub set_at : List (List Entries) → ℕ → ℕ → Entries
set_at rows part node = slice_index_or (slice_index_or rows part []) node []
