-- The tokens of a text, piece by piece, and the lines that they are in.
use Rattle.std.proofs.Common.{◌≡◌, ◌≢◌, ◌<◌, ◌≤◌, ◌+◌, ◌-◌, ◌==◌, ◌||◌, ℕ, zero, suc, Bool, true, false, inl, inr, refl, sym}
use Rattle.std.proofs.Common.{ap, ◌∙◌, arith, List, [], ◌∷◌, ◌++◌, append_assoc, length, drop, take, get_or, length-drop}
use Rattle.std.specs.Prelude.{Some, All, map, slice_get, slice_range, slice_index, if◌then◌else◌}
use Rattle.std.specs.List.{list_any}
use Rattle.std.proofs.lemmas.List.{get_or-take, get_or-drop, length-take-le, append-nil}
use Rattle.std.proofs.lemmas.List.Elements.{All-push}
use Rattle.std.proofs.lemmas.Bool.{cases_eq}
use Rattle.c_lexer.specs.declared.piece.PieceKind.{PieceKind}
use Rattle.c_lexer.specs.declared.piece.PieceKind.TheVariants.{Word, Blank, Comment, Line}
use Rattle.c_lexer.specs.Pieces.{TextPiece, text_of}
use Rattle.edit_marks.specs.Inserts.{line_start, indent_at, returns_in, returns_at}
use Rattle.edit_marks.specs.declared.file_tokens.FileToken.{FileToken}
use Rattle.edit_marks.specs.declared.file_tokens.TokenPlace.{TokenPlace}
use Rattle.edit_marks.specs.Tokens.{token_of, tokens_from, file_tokens, blanks_at, token_at, places_of, IsWithin}

-- ---- lines

or_none : (a b : Bool) → (a || b) ≡ false → (a ≡ false) × (b ≡ false)
or_none true b e = absurd cc
or_none false b e = (refl, e)

no_newline : (text : List ℕ) → list_any (λ b. b == 10) text ≡ false → (k : ℕ) → (get_or text k 0 == 10) ≡ false
no_newline [] e k = refl
no_newline (b ∷ bs) e zero = (or_none (b == 10) (list_any (λ c. c == 10) bs) e).0
no_newline (b ∷ bs) e (suc k) = no_newline bs (or_none (b == 10) (list_any (λ c. c == 10) bs) e).1 k

none_between : (bytes : List ℕ) (start end : ℕ) → list_any (λ b. b == 10) (take (end - start) (drop start bytes)) ≡ false
    → (k : ℕ) → start ≤ k → k < end → (slice_index bytes k == 10) ≡ false
none_between bytes start end none k from below =
    let back : start + (k - start) ≡ k = omega arith in
    let same : get_or (take (end - start) (drop start bytes)) (k - start) 0 ≡ get_or bytes k 0 =
    get_or-take (end - start) (drop start bytes) (k - start) 0 (omega arith) ∙ get_or-drop start bytes (k - start) 0 ∙ ap (λ (n : ℕ). get_or bytes n 0) back in
    ap (λ (b : ℕ). b == 10) (sym same) ∙ no_newline (take (end - start) (drop start bytes)) none (k - start)

line_same : (bytes : List ℕ) (start end : ℕ) → start ≤ end → ((k : ℕ) → start ≤ k → k < end → (slice_index bytes k == 10) ≡ false)
    → line_start bytes end ≡ line_start bytes start
line_same bytes start zero le none = let e : zero ≡ start = omega arith in ap (line_start bytes) e
line_same bytes start (suc n) le none =
    elim (cases_eq start (suc n)) as (λ _. line_start bytes (suc n) ≡ line_start bytes start) [
      | inl same ↦ ap (line_start bytes) (sym same)
      | inr apart ↦ let differ : start ≢ suc n = apart in let less : start ≤ n = omega arith in
          ap (λ (b : Bool). if b then suc n else line_start bytes n) (none n less (omega arith))
          ∙ line_same bytes start n less (λ k from below. none k from (omega arith))
    ]

-- the line is that of the previous place, if no line begins in between
pub same_line : (bytes : List ℕ) (start end : ℕ) → start ≤ end → list_any (λ b. b == 10) (take (end - start) (drop start bytes)) ≡ false
    → line_start bytes start ≡ line_start bytes end
same_line bytes start end le none = sym (line_same bytes start end le (none_between bytes start end none))

start_by : (b : Bool) (bytes : List ℕ) (n : ℕ) → line_start bytes n ≤ n → (if b then suc n else line_start bytes n) ≤ suc n
start_by true bytes n h = omega arith
start_by false bytes n h = omega (arith, h)

-- a line begins no later than what is in it
pub start_within : (bytes : List ℕ) (n : ℕ) → line_start bytes n ≤ n
start_within bytes zero = omega arith
start_within bytes (suc n) = start_by (slice_index bytes n == 10) bytes n (start_within bytes n)

-- ---- tokens

from_place : {A : Type 0} (xs : List A) (i : ℕ) (x : A) → slice_get xs i ≡ Some x → drop i xs ≡ x ∷ drop (suc i) xs
from_place [] i x at = absurd cc
from_place (y ∷ ys) zero x at = let same : y ≡ x = cc in ap (λ z. z ∷ ys) same
from_place (y ∷ ys) (suc i) x at = from_place ys i x at

-- the member at a place, and those after it
pub drop_here : {A : Type 0} (xs : List A) (i : ℕ) (x : A) → slice_get xs i ≡ Some x → drop i xs ≡ x ∷ drop (i + 1) xs
drop_here xs i x at = let one : suc i ≡ i + 1 = omega arith in from_place xs i x at ∙ ap (λ (n : ℕ). x ∷ drop n xs) one

one_place : (bytes : List ℕ) (k : PieceKind) (p : TokenPlace)
    → map (token_at bytes) (places_of k p) ≡ token_of k (slice_range bytes p.start p.end) (blanks_at bytes p.line) p.returns
one_place bytes (Word a id) p = refl
one_place bytes Blank p = refl
one_place bytes Comment p = refl
one_place bytes Line p = refl

mapped : (bytes : List ℕ) (found more : List TokenPlace) → map (token_at bytes) (found ++ more) ≡ map (token_at bytes) found ++ map (token_at bytes) more
mapped bytes [] more = refl
mapped bytes (p ∷ found) more = ap (λ (l : List FileToken). token_at bytes p ∷ l) (mapped bytes found more)

-- the tokens so far with those of the rest, one piece later
pub token_more : (pieces : List TextPiece) (bytes : List ℕ) (i : ℕ) (k : PieceKind) (p : TokenPlace) (found next : List TokenPlace)
    → bytes ≡ text_of pieces → p.start ≡ length (text_of (take i pieces)) → p.end ≡ length (text_of (take (i + 1) pieces))
    → p.start < p.end → p.end ≤ length (text_of pieces)
    → slice_get pieces i ≡ Some (record { kind = k; text = slice_range (text_of pieces) p.start p.end })
    → p.line ≡ line_start (text_of pieces) (length (text_of (take i pieces))) → p.returns ≡ returns_in (drop p.line bytes)
    → next ≡ found ++ places_of k p
    → map (token_at bytes) found ++ tokens_from (text_of pieces) (length (text_of (take i pieces))) (drop i pieces) ≡ file_tokens pieces
    → map (token_at bytes) next ++ tokens_from (text_of pieces) (length (text_of (take (i + 1) pieces))) (drop (i + 1) pieces) ≡ file_tokens pieces
token_more pieces bytes i k p found next same begins ends less within at line returns is h =
    let all = text_of pieces in
    let place = length (text_of (take i pieces)) in
    let text = slice_range all p.start p.end in
    let own = token_of k text (indent_at all place) (returns_at all place) in
    let before = map (token_at bytes) found in
    let rest = λ (n : ℕ). tokens_from all n (drop (i + 1) pieces) in
    let long : length text ≡ p.end - p.start = length-take-le (p.end - p.start) (drop p.start all) (omega (arith, length-drop p.start all)) in
    let behind : place + length text ≡ length (text_of (take (i + 1) pieces)) = omega (arith, long, begins, ends) in
    let written : map (token_at bytes) next ≡ before ++ own =
    ap (map (token_at bytes)) is ∙ mapped bytes found (places_of k p) ∙ ap (λ (l : List FileToken). before ++ l) (one_place bytes k p)
    ∙ (λ j. before ++ token_of k (slice_range bytes p.start p.end) (blanks_at bytes p.line) (returns j))
    ∙ (λ j. before ++ token_of k (slice_range (same j) p.start p.end) (blanks_at (same j) (line j)) (returns_in (drop (line j) (same j)))) in
    ap (λ (l : List FileToken). l ++ rest (length (text_of (take (i + 1) pieces)))) written
    ∙ append_assoc before own (rest (length (text_of (take (i + 1) pieces))))
    ∙ ap (λ (n : ℕ). before ++ (own ++ rest n)) (sym behind)
    ∙ ap (λ (ps : List TextPiece). before ++ tokens_from all place ps) (sym (drop_here pieces i (record { kind = k; text = text }) at))
    ∙ h

-- and all places are within the text
pub within_more : (bytes : List ℕ) (k : PieceKind) (p : TokenPlace) (found next : List TokenPlace) → next ≡ found ++ places_of k p → IsWithin bytes p
    → All (IsWithin bytes) found → All (IsWithin bytes) next
within_more bytes k p found next is one all = rw is (by k)
  where
    by : (kind : PieceKind) → All (IsWithin bytes) (found ++ places_of kind p)
    by (Word a id) = All-push (IsWithin bytes) found p all one
    by Blank = rw (append-nil found) all
    by Comment = rw (append-nil found) all
    by Line = rw (append-nil found) all
