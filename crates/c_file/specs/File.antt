-- A file as contracts see it: its pieces, the numbers of the shown pieces, and its items.
use Rattle.std.specs.Prelude.{ℕ, List}
use Rattle.c_lexer.specs.Pieces.{TextPiece}
use Rattle.cpp_lines.specs.declared.reading.Item.{Item}

pub record FileItems : Type 0 where
  pub pieces : List TextPiece
  pub shown : List ℕ
  pub items : List Item
