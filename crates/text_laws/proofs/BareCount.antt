-- Pieces without ids have as many tokens as with ids.
use Rattle.std.proofs.Common.{◌≡◌, ℕ, suc, refl, ap, List, [], ◌∷◌, length}
use Rattle.c_lexer.specs.declared.piece.PieceKind.{PieceKind}
use Rattle.c_lexer.specs.declared.piece.PieceKind.TheVariants.{Word, Blank, Comment, Line}
use Rattle.c_lexer.specs.Pieces.{TextPiece}
use Rattle.c_lexer.specs.Ids.{ids_of, id_before, kind_without_id, without_ids}

one_more : (k : PieceKind) (is js : List ℕ) → length is ≡ length js → length (id_before (kind_without_id k) is) ≡ length (id_before k js)
one_more (Word kind id) is js e = ap suc e
one_more Blank is js e = e
one_more Comment is js e = e
one_more Line is js e = e

pub bare_count : (pieces : List TextPiece) → length (ids_of (without_ids pieces)) ≡ length (ids_of pieces)
bare_count [] = refl
bare_count (p ∷ pieces) = one_more p.kind (ids_of (without_ids pieces)) (ids_of pieces) (bare_count pieces)
