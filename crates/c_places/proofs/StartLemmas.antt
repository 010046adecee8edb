-- Where tokens begin, piece by piece; and a text has its tokens at one list of places.
use Rattle.std.proofs.Common.{◌≡◌, ◌∙◌, ◌<◌, ◌+◌, ◌++◌, ℕ, suc, true, false, Bool, cond, List, [], ◌∷◌, drop, length, get_or}
use Rattle.std.proofs.Common.{sym, ap, append_assoc, add-one}
use Rattle.std.specs.Prelude.{Some, slice_get}
use Rattle.std.proofs.Math.Seq.{drop-cons}
use Rattle.std.proofs.lemmas.Option.{get_or_from_slice_get, slice_get_within}
use Rattle.c_lexer.specs.Pieces.{TextPiece}
use Rattle.c_lexer.specs.Lexes.{Lexes}
use Rattle.c_places.specs.declared.places.TextPlaces.{TextPlaces}
use Rattle.c_places.specs.Starts.{is_token, piece_start, starts_from, token_starts, ArePlaces}

-- the piece with this number, and those after it
piece_first : (pieces : List TextPiece) (i : ℕ) (p : TextPiece) → slice_get pieces i ≡ Some p → drop i pieces ≡ p ∷ drop (suc i) pieces
piece_first pieces i p is =
    let there : get_or pieces i p ≡ p = get_or_from_slice_get pieces i p p is in
    let lt : i < length pieces = slice_get_within pieces i p is in
    drop-cons pieces i p lt ∙ ap (λ (q : TextPiece). q ∷ drop (suc i) pieces) there

module _ (pieces : List TextPiece) (i : ℕ) (p : TextPiece) (is : slice_get pieces i ≡ Some p) (done : List ℕ)
    (so_far : done ++ starts_from pieces i (drop i pieces) ≡ token_starts pieces) where
  abbrev rest : List ℕ
  rest = starts_from pieces (suc i) (drop (suc i) pieces)

  abbrev next : Bool → List ℕ
  next b = done ++ cond b (piece_start pieces i ∷ rest) rest

  one_on : next (is_token p.kind) ≡ token_starts pieces
  one_on = ap (λ (ps : List TextPiece). done ++ starts_from pieces i ps) (sym (piece_first pieces i p is)) ∙ so_far

  token_on : is_token p.kind ≡ true → (done ++ piece_start pieces i ∷ []) ++ rest ≡ token_starts pieces
  token_on word = append_assoc done (piece_start pieces i ∷ []) rest ∙ ap next (sym word) ∙ one_on

  blank_on : is_token p.kind ≡ false → done ++ rest ≡ token_starts pieces
  blank_on blank = ap next (sym blank) ∙ one_on

  pub a_token : is_token p.kind ≡ true
      → (done ++ piece_start pieces i ∷ []) ++ starts_from pieces (i + 1) (drop (i + 1) pieces) ≡ token_starts pieces
  a_token word = rw add-one (token_on word)

  pub no_token : is_token p.kind ≡ false → done ++ starts_from pieces (i + 1) (drop (i + 1) pieces) ≡ token_starts pieces
  no_token blank = rw add-one (blank_on blank)

module _ (cut_once : (text : List ℕ) (left right : List TextPiece) → Lexes text left → Lexes text right → left ≡ right) where
  pub places_once : (text : List ℕ) (one other : TextPlaces) → ArePlaces text one → ArePlaces text other → one ≡ other
  places_once text one other a b =
      let pieces : a.0 ≡ b.0 = cut_once text a.0 b.0 a.1.0 b.1.0 in
      a.1.1 ∙ (λ i. record { tokens = token_starts (pieces i) }) ∙ sym b.1.1
