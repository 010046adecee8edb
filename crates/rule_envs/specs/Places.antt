-- The parts that are found under the projection at a place.
use Rattle.std.specs.Prelude.{ℕ, Option, None, Some, List, [], slice_index_or}
use Rattle.env_parts.specs.Parts.{Pairs}

-- no parts without a place
abbrev pub parts_at : List (List Pairs) → Option ℕ → List Pairs
parts_at parts None = []
parts_at parts (Some k) = slice_index_or parts k []
