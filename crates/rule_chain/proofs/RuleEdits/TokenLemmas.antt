-- Ids of tokens, one piece after another.
use Rattle.std.proofs.Common.{◌≡◌, ◌<◌, ◌≤◌, ◌+◌, ◌-◌, ℕ, suc, Some, None, refl, ap, ◌∙◌, arith, List, ◌∷◌, length, drop}
use Rattle.std.specs.Prelude.{slice_get}
use Rattle.std.proofs.lemmas.List.{drop_more, drop_all}
use Rattle.std.proofs.lemmas.Option.{get_or_from_slice_get, slice_get_within}
use Rattle.c_lexer.specs.Pieces.{TextPiece}
use Rattle.c_lexer.specs.declared.piece.PieceKind.{PieceKind}
use Rattle.c_lexer.specs.declared.piece.PieceKind.TheVariants.{Word, Blank, Comment, Line}
use Rattle.c_terms.specs.declared.token.TokenKind.{TokenKind}
use Rattle.c_lexer.specs.Ids.{id_before, ids_of}

-- the ids from a piece on
pub left_ids : (pieces : List TextPiece) (i : ℕ) (p : TextPiece) → slice_get pieces i ≡ Some p
    → ids_of (drop i pieces) ≡ id_before p.kind (ids_of (drop (i + 1) pieces))
left_ids pieces i p is =
    ap ids_of (drop_more pieces i p (slice_get_within pieces i p is))
    ∙ ap (λ (q : TextPiece). id_before q.kind (ids_of (drop (i + 1) pieces))) (get_or_from_slice_get pieces i p p is)

-- a token that is skipped
pub passed : (ids : List ℕ) (id token number : ℕ) → number < token → slice_get (id ∷ ids) (token - number) ≡ slice_get ids (token - (number + 1))
passed ids id token number lt = let e : token - number ≡ suc (token - (number + 1)) = omega arith in ap (slice_get (id ∷ ids)) e

pub here : (ids : List ℕ) (id token number : ℕ) → number ≡ token → slice_get (id ∷ ids) (token - number) ≡ Some id
here ids id token number is = let e : token - number ≡ 0 = omega arith in ap (slice_get (id ∷ ids)) e

-- after the last piece there is no token
pub none_left : (pieces : List TextPiece) (i n : ℕ) → length pieces ≤ i → slice_get (ids_of (drop i pieces)) n ≡ None
none_left pieces i n past = ap (λ (ps : List TextPiece). slice_get (ids_of ps) n) (drop_all i pieces past)

other : (kind : PieceKind) (ids : List ℕ) → ((k : TokenKind) (id : ℕ) → kind ≡ Word k id → ⊥) → id_before kind ids ≡ ids
other (Word k id) ids never = absurd (never k id refl)
other Blank ids never = refl
other Comment ids never = refl
other Line ids never = refl

module _ (pieces : List TextPiece) (i : ℕ) (kind : PieceKind) (text : List ℕ) (at : slice_get pieces i ≡ Some (record { kind = kind; text = text })) where
  left_at : ids_of (drop i pieces) ≡ id_before kind (ids_of (drop (i + 1) pieces))
  left_at = left_ids pieces i (record { kind = kind; text = text }) at

  pub word_here : (k : TokenKind) (id token number : ℕ) → kind ≡ Word k id → number ≡ token
      → slice_get (ids_of (drop i pieces)) (token - number) ≡ Some id
  word_here k id token number is same =
      ap (λ ids. slice_get ids (token - number)) (left_at ∙ ap (λ w. id_before w (ids_of (drop (i + 1) pieces))) is)
      ∙ here (ids_of (drop (i + 1) pieces)) id token number same

  pub word_passed : (k : TokenKind) (id token number : ℕ) → kind ≡ Word k id → number < token
      → slice_get (ids_of (drop i pieces)) (token - number) ≡ slice_get (ids_of (drop (i + 1) pieces)) (token - (number + 1))
  word_passed k id token number is lt =
      ap (λ ids. slice_get ids (token - number)) (left_at ∙ ap (λ w. id_before w (ids_of (drop (i + 1) pieces))) is)
      ∙ passed (ids_of (drop (i + 1) pieces)) id token number lt

  pub no_word : ((k : TokenKind) (id : ℕ) → kind ≡ Word k id → ⊥) → ids_of (drop i pieces) ≡ ids_of (drop (i + 1) pieces)
  no_word never = left_at ∙ other kind (ids_of (drop (i + 1) pieces)) never
