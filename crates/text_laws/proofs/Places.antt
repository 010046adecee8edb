-- If the token with an id doesn't follow a Stray, neither does the token with the number that the id has.
use Rattle.std.proofs.Common.{◌≡◌, ◌<◌, ◌≤◌, ◌+◌, ◌⊎◌, ℕ, Bool, true, false, cond, inl, inr, refl, ap, subst, ◌∙◌, arith, List, [], ◌∷◌}
use Rattle.std.specs.Prelude.{Option, Some, All, eqb}
use Rattle.std.specs.List.{position_from}
use Rattle.std.proofs.lemmas.Bool.Decides.{Decides-eqb}
use Rattle.std.proofs.lemmas.List.Elements.{All-head, All-tail}
use Rattle.c_terms.specs.declared.token.Token.{Token}
use Rattle.c_terms.specs.declared.token.TokenKind.{TokenKind}
use Rattle.c_lexer.specs.declared.piece.PieceKind.{PieceKind}
use Rattle.c_lexer.specs.declared.piece.PieceKind.TheVariants.{Word, Blank, Comment, Line}
use Rattle.c_lexer.specs.Pieces.{TextPiece}
use Rattle.c_lexer.specs.Lexes.{id_after}
use Rattle.c_lexer.specs.Ids.{ids_of, id_before}
use Rattle.edit_unparse.specs.Fair.{is_stray, after_stray}
use Rattle.text_laws.specs.ReadingLaws.Sound.{piece_of, StandsApart}
use Rattle.text_laws.specs.OutputLaws.Differ.{AllDiffer}

-- the token of this number is no Stray and stands behind none
abbrev pub GoodHere : ℕ → Bool → ℕ → PieceKind → Type 0
GoodHere n after token (Word kind id) = n ≡ token → (after ≡ false) × (is_stray kind ≡ false)
GoodHere n after token Blank = Unit {0}
GoodHere n after token Comment = Unit {0}
GoodHere n after token Line = Unit {0}

abbrev pub GoodAt : Bool → ℕ → List TextPiece → ℕ → Type 0
GoodAt after token [] n = Unit {0}
GoodAt after token (p ∷ pieces) n = GoodHere n after token p.kind × GoodAt (after_stray p.kind after) (id_after p.kind token) pieces n

later_here : (k : PieceKind) (after : Bool) (token n : ℕ) → n < token → GoodHere n after token k
later_here (Word kind id) after token n less = λ same. absurd (omega (arith, less, same))
later_here Blank after token n less = tt
later_here Comment after token n less = tt
later_here Line after token n less = tt

later_up : (k : PieceKind) (token n : ℕ) → n < token → n < id_after k token
later_up (Word kind id) token n less = omega (arith, less)
later_up Blank token n less = less
later_up Comment token n less = less
later_up Line token n less = less

-- numbers that have passed
later : (after : Bool) (token : ℕ) (pieces : List TextPiece) (n : ℕ) → n < token → GoodAt after token pieces n
later after token [] n less = tt
later after token (p ∷ pieces) n less =
    (later_here p.kind after token n less, later (after_stray p.kind after) (id_after p.kind token) pieces n (later_up p.kind token n less))

-- what holds of all ids holds of that of a token that stands among them
before_all : (P : ℕ → Type 0) (k : PieceKind) (ids : List ℕ) → All P (id_before k ids) → All P ids
before_all P (Word kind id) ids h = All-tail P id ids h
before_all P Blank ids h = h
before_all P Comment ids h = h
before_all P Line ids h = h

own_id : (P : ℕ → Type 0) (k : PieceKind) (text : List ℕ) (ids : List ℕ) (t : Token)
    → (let p : TextPiece = record { kind = k; text = text } in p) ≡ piece_of t → All P (id_before k ids) → P t.id
own_id P (Word kind id) text ids t e h =
    let kinds : Word kind id ≡ Word t.kind t.id = ap (λ (p : TextPiece). p.kind) e in
    let same : id ≡ t.id = cc in
    subst P same (All-head P id ids h)
own_id P Blank text ids t e h = let kinds : Blank ≡ Word t.kind t.id = ap (λ (p : TextPiece). p.kind) e in absurd cc
own_id P Comment text ids t e h = let kinds : Comment ≡ Word t.kind t.id = ap (λ (p : TextPiece). p.kind) e in absurd cc
own_id P Line text ids t e h = let kinds : Line ≡ Word t.kind t.id = ap (λ (p : TextPiece). p.kind) e in absurd cc

id_among : (P : ℕ → Type 0) (after : Bool) (pieces : List TextPiece) (t : Token) → StandsApart after pieces t → All P (ids_of pieces) → P t.id
id_among P after [] t s h = absurd s
id_among P after (p ∷ pieces) t (inl s) h = own_id P p.kind p.text (ids_of pieces) t s.0 h
id_among P after (p ∷ pieces) t (inr s) h = id_among P (after_stray p.kind after) pieces t s (before_all P p.kind (ids_of pieces) h)

abbrev at_id : Token → ℕ → Bool
at_id t = λ k. eqb k t.id

not_before : (i n : ℕ) (b : Bool) (rest : Option ℕ) → (rest ≡ Some n → i + 1 ≤ n) → cond b (Some i) rest ≡ Some n → i ≤ n
not_before i n true rest h e = let same : i ≡ n = cc in omega (arith, same)
not_before i n false rest h e = let up : i + 1 ≤ n = h e in omega (arith, up)

position_up : (test : ℕ → Bool) (i : ℕ) (xs : List ℕ) (n : ℕ) → position_from test i xs ≡ Some n → i ≤ n
position_up test i [] n e = absurd cc
position_up test i (x ∷ xs) n e = not_before i n (test x) (position_from test (i + 1) xs) (λ f. position_up test (i + 1) xs n f) e

before_apart : (k : PieceKind) (ids : List ℕ) → AllDiffer (id_before k ids) → AllDiffer ids
before_apart (Word kind id) ids h = h.1
before_apart Blank ids h = h
before_apart Comment ids h = h
before_apart Line ids h = h

abbrev Among : PieceKind → List ℕ → Bool → List TextPiece → Token → Type 0
Among k text after pieces t = ((let p : TextPiece = record { kind = k; text = text } in p) ≡ piece_of t × (after ≡ false)) ⊎ StandsApart
    (after_stray k after) pieces t

-- the token itself
own_good : (kind : TokenKind) (id : ℕ) (text : List ℕ) (after : Bool) (token n : ℕ) (pieces : List TextPiece) (t : Token) → AllDiffer (id ∷ ids_of pieces)
    → is_stray t.kind ≡ false
    → Among (Word kind id) text after pieces t → id ≡ t.id → token ≡ n → GoodHere n after token (Word kind id)
own_good kind id text after token n pieces t apart quiet (inl s) same here = λ number.
    let kinds : Word kind id ≡ Word t.kind t.id = ap (λ (p : TextPiece). p.kind) s.0 in
    let own : kind ≡ t.kind = cc in
    (s.1, ap is_stray own ∙ quiet)
own_good kind id text after token n pieces t apart quiet (inr s) same here = absurd
    (id_among (λ other. id ≡ other → ⊥) (is_stray kind) pieces t s apart.0 same)

word_good : (kind : TokenKind) (id : ℕ) (text : List ℕ) (after : Bool) (token n : ℕ) (pieces : List TextPiece) (t : Token) (b : Bool)
    → AllDiffer (id ∷ ids_of pieces) → is_stray t.kind ≡ false
    → Among (Word kind id) text after pieces t → eqb id t.id ≡ b → cond b (Some token) (position_from (at_id t) (token + 1) (ids_of pieces)) ≡ Some n
    → (StandsApart (is_stray kind) pieces t → position_from (at_id t) (token + 1) (ids_of pieces) ≡ Some n → GoodAt (is_stray kind) (token + 1) pieces n)
    → GoodHere n after token (Word kind id) × GoodAt (is_stray kind) (token + 1) pieces n
word_good kind id text after token n pieces t true apart quiet among test at from =
    let same : id ≡ t.id = (Decides-eqb id t.id).0 test in
    let here : token ≡ n = cc in
    (own_good kind id text after token n pieces t apart quiet among same here, later (is_stray kind) (token + 1) pieces n (omega (arith, here)))
word_good kind id text after token n pieces t false apart quiet (inl s) test at from =
    let kinds : Word kind id ≡ Word t.kind t.id = ap (λ (p : TextPiece). p.kind) s.0 in
    let same : id ≡ t.id = cc in
    let yes : eqb id t.id ≡ true = (Decides-eqb id t.id).1 same in
    absurd cc
word_good kind id text after token n pieces t false apart quiet (inr s) test at from =
    let up : token + 1 ≤ n = position_up (at_id t) (token + 1) (ids_of pieces) n at in
    ((λ same. absurd (omega (arith, up, same))), from s at)

no_word : (k : PieceKind) (text : List ℕ) (after : Bool) (pieces : List TextPiece) (t : Token) → (k ≡ Word t.kind t.id → ⊥) → Among k text after pieces t
    → StandsApart (after_stray k after) pieces t
no_word k text after pieces t not (inl s) = absurd (not (ap (λ (p : TextPiece). p.kind) s.0))
no_word k text after pieces t not (inr s) = s

abbrev Later : ℕ → List TextPiece → ℕ → Token → Type 0
Later token pieces n t = (after : Bool) → StandsApart after pieces t → position_from (at_id t) token (ids_of pieces) ≡ Some n → GoodAt after token pieces n

piece_good : (k : PieceKind) (text : List ℕ) (after : Bool) (token : ℕ) (pieces : List TextPiece) (n : ℕ) (t : Token)
    → AllDiffer (id_before k (ids_of pieces)) → is_stray t.kind ≡ false
    → Among k text after pieces t → position_from (at_id t) token (id_before k (ids_of pieces)) ≡ Some n → Later (id_after k token) pieces n t
    → GoodHere n after token k × GoodAt (after_stray k after) (id_after k token) pieces n
piece_good (Word kind id) text after token pieces n t apart quiet s at rest =
    word_good kind id text after token n pieces t (eqb id t.id) apart quiet s refl at (λ r f. rest (is_stray kind) r f)
piece_good Blank text after token pieces n t apart quiet s at rest = (tt, rest after (no_word Blank text after pieces t (λ e. absurd cc) s) at)
piece_good Comment text after token pieces n t apart quiet s at rest = (tt, rest false (no_word Comment text after pieces t (λ e. absurd cc) s) at)
piece_good Line text after token pieces n t apart quiet s at rest = (tt, rest false (no_word Line text after pieces t (λ e. absurd cc) s) at)

pub number_good : (after : Bool) (token : ℕ) (pieces : List TextPiece) (n : ℕ) (t : Token) → AllDiffer (ids_of pieces) → is_stray t.kind ≡ false
    → StandsApart after pieces t
    → position_from (at_id t) token (ids_of pieces) ≡ Some n → GoodAt after token pieces n
number_good after token [] n t apart quiet s at = absurd s
number_good after token (p ∷ pieces) n t apart quiet s at =
    piece_good p.kind p.text after token pieces n t apart quiet s at
    (λ a r f. number_good a (id_after p.kind token) pieces n t (before_apart p.kind (ids_of pieces) apart) quiet r f)
