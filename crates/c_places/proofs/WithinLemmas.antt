-- A token begins within its text, and where its id says.
use Rattle.std.proofs.Common.{◌≡◌, ◌∙◌, ◌<◌, ◌≤◌, ◌+◌, ◌-◌, ◌++◌, ℕ, zero, suc, true, false, Bool, cond, List, [], ◌∷◌, take, length}
use Rattle.std.proofs.Common.{Option, Some, None, sym, ap, arith}
use Rattle.std.specs.Prelude.{slice_get, IsSomeAnd}
use Rattle.std.proofs.lemmas.List.{length-append}
use Rattle.c_terms.specs.declared.token.TokenKind.{TokenKind}
use Rattle.c_lexer.specs.declared.piece.PieceKind.{PieceKind}
use Rattle.c_lexer.specs.declared.piece.PieceKind.TheVariants.{Word, Blank, Comment, Line}
use Rattle.c_lexer.specs.declared.state.Kind.{Kind}
use Rattle.c_lexer.specs.Kinds.{kind_of}
use Rattle.c_lexer.specs.First.{IsFirst}
use Rattle.c_lexer.specs.Pieces.{TextPiece, text_of}
use Rattle.c_lexer.specs.Lexes.{Lexes, Cuts, HasId, Numbered, id_after}
use Rattle.c_places.specs.declared.places.TextPlaces.{TextPlaces}
use Rattle.c_places.specs.Starts.{is_token, piece_start, starts_from, token_starts, ArePlaces}

-- ---- within the text

has_byte : (o : Option Kind) (text rest : List ℕ) → IsSomeAnd o (λ kind. IsFirst kind text rest) → 0 < length text
has_byte None text rest h = absurd h
has_byte (Some k) [] rest h = let e : kind_of [] ≡ Some k = h.of_kind in absurd cc
has_byte (Some k) (b ∷ text) rest h = omega arith

before_end : (pieces : List TextPiece) → Cuts pieces → (i : ℕ) → i < length pieces → piece_start pieces i < length (text_of pieces)
before_end [] cuts i lt = absurd (omega (arith, lt))
before_end (p ∷ ps) cuts zero lt =
    let some : 0 < length p.text = has_byte _ p.text (text_of ps) cuts.0 in
    let both : length (p.text ++ text_of ps) ≡ length p.text + length (text_of ps) = length-append p.text (text_of ps) in
    omega (arith, some, both)
before_end (p ∷ ps) cuts (suc i) lt =
    let later : length (text_of (take i ps)) < length (text_of ps) = before_end ps cuts.1 i (omega (arith, lt)) in
    let front : length (p.text ++ text_of (take i ps)) ≡ length p.text + length (text_of (take i ps)) = length-append p.text (text_of (take i ps)) in
    let both : length (p.text ++ text_of ps) ≡ length p.text + length (text_of ps) = length-append p.text (text_of ps) in
    omega (arith, later, front, both)

-- each start is that of a piece
abbrev IsOfPiece : List TextPiece → ℕ → List TextPiece → ℕ → Type 0
IsOfPiece whole number rest at = (i : ℕ) × ((i < length rest) × (at ≡ piece_start whole (number + i)))

one_later : (whole : List TextPiece) (number : ℕ) (p : TextPiece) (ps : List TextPiece) (at : ℕ)
    → IsOfPiece whole (suc number) ps at → IsOfPiece whole number (p ∷ ps) at
one_later whole number p ps at h =
    let e : suc number + h.0 ≡ number + suc h.0 = omega arith in
    (suc h.0, (omega (arith, h.1.0), h.1.1 ∙ ap (piece_start whole) e))

of_piece : (whole : List TextPiece) (number : ℕ) (rest : List TextPiece) (n at : ℕ)
    → slice_get (starts_from whole number rest) n ≡ Some at → IsOfPiece whole number rest at
of_piece whole number [] n at is = absurd cc
of_piece whole number (p ∷ ps) n at is = by (is_token p.kind) n (λ m e. of_piece whole (suc number) ps m at e) is
  where
    by : (b : Bool) (m : ℕ) → ((k : ℕ) → slice_get (starts_from whole (suc number) ps) k ≡ Some at → IsOfPiece whole (suc number) ps at)
        → slice_get (cond b (piece_start whole number ∷ starts_from whole (suc number) ps) (starts_from whole (suc number) ps)) m ≡ Some at
        → IsOfPiece whole number (p ∷ ps) at
    by true zero later e =
        let here : at ≡ piece_start whole number = cc in
        let same : number ≡ number + 0 = omega arith in
        (0, (omega arith, here ∙ ap (piece_start whole) same))
    by true (suc m) later e = one_later whole number p ps at (later m e)
    by false m later e = one_later whole number p ps at (later m e)

pub within : (text : List ℕ) (places : TextPlaces) (id at : ℕ) → ArePlaces text places → slice_get places.tokens id ≡ Some at → at < length text
within text places id at are is =
    let pieces : List TextPiece = are.0 in
    let same : places.tokens ≡ token_starts pieces = ap (λ (found : TextPlaces). found.tokens) are.1.1 in
    let there : slice_get (token_starts pieces) id ≡ Some at = ap (λ (starts : List ℕ). slice_get starts id) (sym same) ∙ is in
    let found : IsOfPiece pieces 0 pieces at = of_piece pieces 0 pieces id at there in
    let before : piece_start pieces found.0 < length (text_of pieces) = before_end pieces are.1.0.1.0 found.0 found.1.0 in
    let zeroth : 0 + found.0 ≡ found.0 = omega arith in
    let begins : at ≡ piece_start pieces found.0 = found.1.1 ∙ ap (piece_start pieces) zeroth in
    let long : length (text_of pieces) ≡ length text = ap length are.1.0.0 in
    omega (arith, before, begins, long)

-- ---- where its id says

module _ (x : ℕ) (starts : List ℕ) (next id : ℕ) where
  -- a token with this id is the first
  first_is : (k : PieceKind) → HasId k next → (kind : TokenKind) → k ≡ Word kind id
      → (next ≤ id) × (slice_get (cond (is_token k) (x ∷ starts) starts) (id - next) ≡ Some x)
  first_is (Word own number) has kind e =
      let same : number ≡ id = cc in
      let is : id ≡ next = sym same ∙ has in
      let none : id - next ≡ 0 = omega (arith, is) in
      (omega (arith, is), ap (slice_get (x ∷ starts)) none)
  first_is Blank has kind e = absurd cc
  first_is Comment has kind e = absurd cc
  first_is Line has kind e = absurd cc

  -- a later token has it
  later_is : (k : PieceKind) → HasId k next → (at : ℕ) → (id_after k next ≤ id) × (slice_get starts (id - id_after k next) ≡ Some at)
      → (next ≤ id) × (slice_get (cond (is_token k) (x ∷ starts) starts) (id - next) ≡ Some at)
  later_is (Word own number) has at h =
      let e : id - next ≡ suc (id - (next + 1)) = omega (arith, h.0) in
      (omega (arith, h.0), ap (slice_get (x ∷ starts)) e ∙ h.1)
  later_is Blank has at h = h
  later_is Comment has at h = h
  later_is Line has at h = h

-- the token with an id, among pieces whose ids count up from a number
at_id : (whole : List TextPiece) (number next : ℕ) (rest : List TextPiece) → Numbered next rest → (i id : ℕ) (kind : TokenKind) (bytes : List ℕ)
    → slice_get rest i ≡ Some (record { kind = Word kind id; text = bytes })
    → (next ≤ id) × (slice_get (starts_from whole number rest) (id - next) ≡ Some (piece_start whole (number + i)))
at_id whole number next [] numbered i id kind bytes is = absurd cc
at_id whole number next (p ∷ ps) numbered zero id kind bytes is =
    let piece : p ≡ record { kind = Word kind id; text = bytes } = cc in
    let zeroth : number ≡ number + 0 = omega arith in
    let found = first_is (piece_start whole number) (starts_from whole (suc number) ps) next id p.kind numbered.0 kind
    (ap (λ (q : TextPiece). q.kind) piece) in
    (found.0, found.1 ∙ ap (λ n. Some (piece_start whole n)) zeroth)
at_id whole number next (p ∷ ps) numbered (suc i) id kind bytes is =
    let onward : suc number + i ≡ number + suc i = omega arith in
    let rest = at_id whole (suc number) (id_after p.kind next) ps numbered.1 i id kind bytes is in
    later_is (piece_start whole number) (starts_from whole (suc number) ps) next id p.kind numbered.0 (piece_start whole (number + suc i))
    (rest.0, rest.1 ∙ ap (λ n. Some (piece_start whole n)) onward)

module _ (cut_once : (text : List ℕ) (left right : List TextPiece) → Lexes text left → Lexes text right → left ≡ right) where
  pub where_its_id_says : (text : List ℕ) (pieces : List TextPiece) (places : TextPlaces) (i id : ℕ) (kind : TokenKind) (bytes : List ℕ)
      → Lexes text pieces → ArePlaces text places → slice_get pieces i ≡ Some (record { kind = Word kind id; text = bytes })
      → slice_get places.tokens id ≡ Some (piece_start pieces i)
  where_its_id_says text pieces places i id kind bytes lexes are is =
      let same : are.0 ≡ pieces = cut_once text are.0 pieces are.1.0 lexes in
      let tokens : places.tokens ≡ token_starts are.0 = ap (λ (found : TextPlaces). found.tokens) are.1.1 in
      let found = at_id pieces 0 0 pieces lexes.1.1 i id kind bytes is in
      let zeroth : 0 + i ≡ i = omega arith in
      let whole : id - 0 ≡ id = omega arith in
      ap (λ (starts : List ℕ). slice_get starts id) (tokens ∙ ap token_starts same) ∙ ap (slice_get (token_starts pieces)) (sym whole)
      ∙ found.1 ∙ ap (λ n. Some (piece_start pieces n)) zeroth
