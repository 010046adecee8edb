-- The tokens of a text that are shown.
use Rattle.std.specs.Prelude.{ℕ, List, map, slice_get}
use Rattle.std.specs.Option.{option_map_or}
use Rattle.c_lexer.specs.Pieces.{TextPiece}
use Rattle.cpp_lines.specs.declared.sign.Sign.{Sign}
use Rattle.cpp_lines.specs.declared.sign.Sign.TheVariants.{Other}
use Rattle.cpp_lines.specs.Signs.{sign_of}

-- pieces, and the numbers of those that are shown
pub record VisibleTokens : Type 0 where
  pub pieces : List TextPiece
  pub shown : List ℕ

abbrev pub sign_at : List TextPiece → ℕ → Sign
sign_at pieces n = option_map_or (λ (p : TextPiece). sign_of p.text) (slice_get pieces n) Other

-- the signs of the shown tokens
abbrev pub signs_of : VisibleTokens → List Sign
signs_of v = map (sign_at v.pieces) v.shown
