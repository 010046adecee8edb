-- Numbers of pieces, in increasing order.
use Rattle.std.specs.Prelude.{ℕ, ◌+◌, ◌<◌, ◌≤◌, List, [], ◌∷◌, length}
use Rattle.c_lexer.specs.Pieces.{TextPiece, most_bytes}

-- the numbers increase from one bound on, and stay below another
abbrev pub Rise : ℕ → List ℕ → ℕ → Type 0
Rise from [] to = Unit {0}
Rise from (n ∷ numbers) to = (from ≤ n) × ((n < to) × Rise (n + 1) numbers to)

pub record AreNumbers (pieces : List TextPiece) (numbers : List ℕ) : Type 0 where
  pub rise : Rise 0 numbers (length pieces)
  pub short : length pieces ≤ most_bytes
