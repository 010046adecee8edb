-- Numbers by name.
use Rattle.std.specs.Prelude.{ℕ, List, [], slice_index}
use Rattle.std.specs.List.{position_or_len}
use Rattle.c_terms.specs.Same.{same_bytes}

-- names, each with a number at the same place
pub record Numbered : Type 0 where
  pub names : List (List ℕ)
  pub numbers : List ℕ

abbrev pub no_numbers : Numbered
no_numbers = record { names = []; numbers = [] }

-- the number of a name, or 0 if it has none
abbrev pub number_of : Numbered → List ℕ → ℕ
number_of n name = slice_index n.numbers (position_or_len (same_bytes name) n.names)
