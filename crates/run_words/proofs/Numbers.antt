-- Numbers of decimal digits.
use Rattle.std.proofs.Common.{◌≡◌, ◌∙◌, refl, sym, ap, ℕ, ◌+◌, ◌-◌, ◌*◌, ◌^◌, ◌<◌, ◌≤◌, Bool, true, false, cond, ◌&&◌, nat_lt, List, [], ◌∷◌, length, subst}
use Rattle.std.proofs.Common.{Option, Some, None, le_trans, le_refl, arith, lt-ltb, le-ltb, get_or, drop, drop-cons, add-one}
use Rattle.std.proofs.lemmas.Bool.{and_parts, false≢true}
use Rattle.std.proofs.lemmas.Bool.Decides.{nat_tests}
use Rattle.std.proofs.lemmas.List.{drop_all}
use Rattle.std.specs.Prelude.{◌==◌, not, nat_le}
use Rattle.std.specs.List.{list_all}
use Rattle.c_lexer.specs.Words.{is_digit}
use Rattle.run_words.specs.Values.{begins_with_zero, count_in, decimal_from, decimal_value, number_in}

-- the number that the digits represent when appended to those of n
abbrev pub number_from : ℕ → List ℕ → Option ℕ
number_from n text = cond (list_all is_digit text && nat_lt (decimal_from n text) (2 ^ 64)) (Some (decimal_from n text)) None

grows : (text : List ℕ) (n : ℕ) → n ≤ decimal_from n text
grows [] n = le_refl n
grows (b ∷ text) n = let rest = grows text (n * 10 + (b - 48)) in omega (arith, rest)

both_false : (a : Bool) → (a && false) ≡ false
both_false true = refl
both_false false = refl

-- a text with another byte has no number
pub no_digit : (n b : ℕ) (text : List ℕ) → is_digit b ≡ false → number_from n (b ∷ text) ≡ None
no_digit n b text h = rw h refl

-- a text whose number is past the limit has none
pub too_large : (n b : ℕ) (text : List ℕ) → 2 ^ 64 ≤ n * 10 + (b - 48) → number_from n (b ∷ text) ≡ None
too_large n b text h =
    let past : 2 ^ 64 ≤ decimal_from (n * 10 + (b - 48)) text = le_trans h (grows text (n * 10 + (b - 48))) in
    rw (le-ltb _ _ past, both_false) refl

pub one_digit : (n b : ℕ) (text : List ℕ) → is_digit b ≡ true → number_from n (b ∷ text) ≡ number_from (n * 10 + (b - 48)) text
one_digit n b text h = rw h refl

pub no_more : (n : ℕ) → n < 2 ^ 64 → number_from n [] ≡ Some n
no_more n h = rw (lt-ltb _ _ h) refl

-- ---- at a position among digits

at_place : (ds : List ℕ) (i n : ℕ) → i < length ds → number_from n (drop i ds) ≡ number_from n (get_or ds i 0 ∷ drop (i + 1) ds)
at_place ds i n low = ap (number_from n) (drop-cons ds i 0 low ∙ ap (λ k. get_or ds i 0 ∷ drop k ds) (sym (add-one i)))

pub stops_at : (ds : List ℕ) (i n : ℕ) → i < length ds → number_in ds ≡ number_from n (drop i ds) → is_digit (get_or ds i 0) ≡ false → None ≡ number_in ds
stops_at ds i n low so other = sym (so ∙ (at_place ds i n low ∙ no_digit n (get_or ds i 0) (drop (i + 1) ds) other))

pub passes_at : (ds : List ℕ) (i n : ℕ) → i < length ds → number_in ds ≡ number_from n (drop i ds) → 2 ^ 64 ≤ n * 10 + (get_or ds i 0 - 48)
    → None ≡ number_in ds
passes_at ds i n low so past = sym (so ∙ (at_place ds i n low ∙ too_large n (get_or ds i 0) (drop (i + 1) ds) past))

pub goes_on : (ds : List ℕ) (i n : ℕ) → i < length ds → number_in ds ≡ number_from n (drop i ds) → is_digit (get_or ds i 0) ≡ true → (m : ℕ)
    → m ≡ n * 10 + (get_or ds i 0 - 48)
    → number_in ds ≡ number_from m (drop (i + 1) ds)
goes_on ds i n low so digit m is = so ∙ (at_place ds i n low ∙ (one_digit n (get_or ds i 0) (drop (i + 1) ds) digit
    ∙ ap (λ k. number_from k (drop (i + 1) ds)) (sym is)))

pub ends_at : (ds : List ℕ) (i n : ℕ) → length ds ≤ i → n < 2 ^ 64 → number_in ds ≡ number_from n (drop i ds) → Some n ≡ number_in ds
ends_at ds i n past small so = sym (so ∙ (ap (number_from n) (drop_all i ds past) ∙ no_more n small))

-- ---- counts

first_digit : (b : ℕ) (text : List ℕ) → is_digit b ≡ true → not (b == 48) ≡ true → 1 ≤ decimal_from (0 * 10 + (b - 48)) text
first_digit b text digit other = let rest = grows text (0 * 10 + (b - 48)) in grind (arith, nat_tests)

from_one : (text : List ℕ) → nat_le 1 (length text) ≡ true → list_all is_digit text ≡ true → not (begins_with_zero text) ≡ true → 1 ≤ decimal_value text
from_one [] some digits other = let e : false ≡ true = some in absurd (false≢true e)
from_one (b ∷ text) some digits other = first_digit b text (and_parts (is_digit b) (list_all is_digit text) digits).0 other

-- what a count is, by the tests in turn
abbrev IsCount : ℕ → List ℕ → ℕ → Type 0
IsCount most text n = (n ≡ decimal_value text) × ((1 ≤ n) × (n ≤ most))

at_most : (a b : ℕ) → nat_le a b ≡ true → a ≤ b
at_most a b e = grind (arith, nat_tests)

by_tests : (most : ℕ) (text : List ℕ) (a b c d : Bool) → nat_le 1 (length text) ≡ a → list_all is_digit text ≡ b → not (begins_with_zero text) ≡ c
    → nat_le (decimal_value text) most ≡ d → (n : ℕ) → Some n ≡ cond (a && b && c && d) (Some (decimal_value text)) None → IsCount most text n
by_tests most text true true true true some digits other small n is =
    let e : n ≡ decimal_value text = cc in
    (e, (subst (λ k. 1 ≤ k) (sym e) (from_one text some digits other), subst (λ k. k ≤ most) (sym e) (at_most (decimal_value text) most small)))
by_tests most text true true true false some digits other small n is = let e : Some n ≡ None = is in absurd cc
by_tests most text true true false d some digits other small n is = let e : Some n ≡ None = is in absurd cc
by_tests most text true false c d some digits other small n is = let e : Some n ≡ None = is in absurd cc
by_tests most text false b c d some digits other small n is = let e : Some n ≡ None = is in absurd cc

-- a count is the number that its digits represent, at least one and at most the maximum
pub count_is : (most : ℕ) (text : List ℕ) (n : ℕ) → Some n ≡ count_in most text → IsCount most text n
count_is most text n is = by_tests most text _ _ _ _ refl refl refl refl n is
