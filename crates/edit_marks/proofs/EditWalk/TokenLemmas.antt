-- The ids of the tokens of a text, piece by piece.
use Rattle.std.proofs.Common.{◌≡◌, ◌+◌, ℕ, refl, sym, ap, ◌∙◌, List, ◌++◌, [], append_assoc, drop}
use Rattle.std.specs.Prelude.{Some, slice_get}
use Rattle.c_lexer.specs.declared.piece.PieceKind.{PieceKind}
use Rattle.c_lexer.specs.declared.piece.PieceKind.TheVariants.{Word, Blank, Comment, Line}
use Rattle.c_lexer.specs.Pieces.{TextPiece}
use Rattle.c_lexer.specs.Ids.{ids_of, id_before}
use Rattle.edit_marks.proofs.TokenLemmas.{drop_here}

id_joined : (k : PieceKind) (rest : List ℕ) → id_before k rest ≡ id_before k [] ++ rest
id_joined (Word a id) rest = refl
id_joined Blank rest = refl
id_joined Comment rest = refl
id_joined Line rest = refl

pub id_more : (pieces : List TextPiece) (i : ℕ) (p : TextPiece) (found next : List ℕ) → slice_get pieces i ≡ Some p → next ≡ found ++ id_before p.kind []
    → found ++ ids_of (drop i pieces) ≡ ids_of pieces → next ++ ids_of (drop (i + 1) pieces) ≡ ids_of pieces
id_more pieces i p found next at is h =
    let rest = ids_of (drop (i + 1) pieces) in
    ap (λ (l : List ℕ). l ++ rest) is ∙ append_assoc found (id_before p.kind []) rest
    ∙ ap (λ (l : List ℕ). found ++ l) (sym (id_joined p.kind rest) ∙ ap ids_of (sym (drop_here pieces i p at))) ∙ h
