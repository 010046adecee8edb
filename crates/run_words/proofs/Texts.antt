-- Words as text, one after another.
use Rattle.std.proofs.Common.{◌≡◌, ◌∙◌, refl, sym, ap, ℕ, zero, suc, ◌+◌, ◌<◌, true, false, List, [], ◌∷◌, ◌++◌, length, get_or, map, take, take-suc}
use Rattle.std.proofs.Common.{add-one, le_of_suc-le-suc, IsUtf8, arith, Result, Ok, Err, MatchResult, is_ok}
use Rattle.std.specs.List.{list_all}
use Rattle.std.specs.Str.{is_utf8}
use Rattle.std.specs.Borrow.{Bor}
use Rattle.std.proofs.lemmas.Bool.{and_from, and_left, and_parts, and_right, false_from_ne_true}
use Rattle.std.proofs.lemmas.Str.{IsUtf8-from_is_utf8, is_utf8-from_IsUtf8}

one_fails : (words : List (List ℕ)) (i : ℕ) (d : List ℕ) → i < length words → is_utf8 (get_or words i d) ≡ false → list_all is_utf8 words ≡ false
one_fails [] i d low bad = absurd (omega arith)
one_fails (w ∷ ws) zero d low bad = and_left (is_utf8 w) (list_all is_utf8 ws) bad
one_fails (w ∷ ws) (suc i) d low bad = and_right (is_utf8 w) (list_all is_utf8 ws) (one_fails ws i d (le_of_suc-le-suc low) bad)

-- a word that isn't text
pub no_text : (words : List (List ℕ)) (i : ℕ) (word : List ℕ) → i < length words → word ≡ get_or words i word → (IsUtf8 word → ⊥)
    → list_all is_utf8 words ≡ false
no_text words i word low is bad = one_fails words i word low (false_from_ne_true _ (λ text. bad (IsUtf8-from_is_utf8 word (ap is_utf8 is ∙ text))))

all_append : (words : List (List ℕ)) (word : List ℕ) → list_all is_utf8 words ≡ true → is_utf8 word ≡ true → list_all is_utf8 (words ++ word ∷ []) ≡ true
all_append [] word h one = and_from _ _ one refl
all_append (w ∷ ws) word h one = let parts = and_parts _ _ h in and_from _ _ parts.0 (all_append ws word parts.1 one)

-- one word more
one_more : (words : List (List ℕ)) (i : ℕ) (word : List ℕ) → i < length words → word ≡ get_or words i word → take (i + 1) words ≡ take i words ++ word ∷ []
one_more words i word low is = ap (λ n. take n words) (add-one i) ∙ (take-suc words i word low ∙ ap (λ w. take i words ++ w ∷ []) (sym is))

map_append : (texts : List (Bor (List ℕ))) (text : Bor (List ℕ)) → map (λ t. t.now) (texts ++ text ∷ []) ≡ map (λ t. t.now) texts ++ text.now ∷ []
map_append [] text = refl
map_append (t ∷ texts) text = ap (λ ts. t.now ∷ ts) (map_append texts text)

pub more_same : (words : List (List ℕ)) (i : ℕ) (word : List ℕ) (texts : List (Bor (List ℕ))) (text : Bor (List ℕ)) → i < length words
    → word ≡ get_or words i word → text.now ≡ word
    → map (λ t. t.now) texts ≡ take i words → map (λ t. t.now) (texts ++ text ∷ []) ≡ take (i + 1) words
more_same words i word texts text low is same so = map_append texts text ∙ (ap (λ ts. ts ++ text.now ∷ []) so ∙ (ap (λ w. take i words ++ w ∷ []) same
    ∙ sym (one_more words i word low is)))

pub more_text : (words : List (List ℕ)) (i : ℕ) (word : List ℕ) → i < length words → word ≡ get_or words i word → IsUtf8 word
    → list_all is_utf8 (take i words) ≡ true → list_all is_utf8 (take (i + 1) words) ≡ true
more_text words i word low is text so = ap (list_all is_utf8) (one_more words i word low is) ∙ all_append (take i words) word so (is_utf8-from_IsUtf8 word text)

-- a word is text where the library reads it as text
pub read_as_text : {E : Type 0} (word : List ℕ) (read : Result (Bor (List ℕ)) E) (P : E → Type 0)
    → MatchResult read (λ s. (s.now ≡ word) × IsUtf8 word) (λ e. (IsUtf8 word → ⊥) × P e) → is_ok read ≡ is_utf8 word
read_as_text word (Ok text) P h = sym (is_utf8-from_IsUtf8 word h.1)
read_as_text word (Err e) P h = sym (false_from_ne_true _ (λ text. h.0 (IsUtf8-from_is_utf8 word text)))
