-- Whether a number is among numbers that rise.
use Rattle.std.proofs.Common.{◌≡◌, ◌<◌, ◌≤◌, ◌+◌, ◌==◌, ◌||◌, ◌⊎◌, ℕ, zero, suc, Bool, true, false, inl, inr, refl, sym, ap, ◌∙◌, arith}
use Rattle.std.proofs.Common.{List, [], ◌∷◌, length, get_or}
use Rattle.std.specs.Prelude.{Result, Ok, Err}
use Rattle.std.specs.Result.{is_ok}
use Rattle.std.specs.List.{list_any}
use Rattle.std.specs.Ordering.{nat_cmp}
use Rattle.std.specs.List.Sorted.{IsBinarySearchResult, IsStrictlyIncreasing}
use Rattle.std.proofs.lemmas.Bool.Decides.{Decides-eqb}
use Rattle.std.proofs.lemmas.List.Sorted.{searched}
use Rattle.edit_marks.proofs.OneEdit.{Rising, rises}

or_true : (b : Bool) → (b || true) ≡ true
or_true true = refl
or_true false = refl

pub any_here : (xs : List ℕ) (x i : ℕ) → i < length xs → get_or xs i 0 ≡ x → list_any (λ n. n == x) xs ≡ true
any_here [] x i less is = absurd (omega (arith, less))
any_here (y ∷ ys) x zero less is = ap (λ (b : Bool). b || list_any (λ n. n == x) ys) ((Decides-eqb y x).1 is)
any_here (y ∷ ys) x (suc i) less is = ap (λ (b : Bool). (y == x) || b) (any_here ys x i (omega (arith, less)) is) ∙ or_true (y == x)

false_by : (b : Bool) → (b ≡ true → ⊥) → b ≡ false
false_by true h = absurd (h refl)
false_by false h = refl

pub any_none : (xs : List ℕ) (x : ℕ) → ((i : ℕ) → i < length xs → get_or xs i 0 ≡ x → ⊥) → list_any (λ n. n == x) xs ≡ false
any_none [] x h = refl
any_none (y ∷ ys) x h =
    ap (λ (b : Bool). b || list_any (λ n. n == x) ys) (false_by (y == x) (λ e. h 0 (omega arith) ((Decides-eqb y x).0 e)))
    ∙ any_none ys x (λ i less is. h (suc i) (omega (arith, less)) is)

not_falling : (xs : List ℕ) → Rising xs → (i j : ℕ) → i ≤ j → j < length xs → get_or xs i 0 ≤ get_or xs j 0
not_falling [] h i j le less = absurd (omega (arith, less))
not_falling (x ∷ xs) h zero zero le less = omega arith
not_falling (x ∷ xs) h zero (suc j) le less = let later = h.0 j 0 (omega (arith, less)) in omega (arith, later)
not_falling (x ∷ xs) h (suc i) zero le less = absurd (omega (arith, le))
not_falling (x ∷ xs) h (suc i) (suc j) le less = not_falling xs h.1 i j (omega (arith, le)) (omega (arith, less))

split : (k i : ℕ) → (k < i) ⊎ (i ≤ k)
split k i = grind arith

pub is_found : (xs : List ℕ) (x : ℕ) (r : Result ℕ ℕ) → IsBinarySearchResult (λ y. nat_cmp y x) xs r → IsStrictlyIncreasing xs
    → is_ok r ≡ list_any (λ n. n == x) xs
is_found xs x (Ok i) at up = let here = searched xs x (Ok i) at (not_falling xs (rises xs up)) in sym (any_here xs x i here.0 here.1)
is_found xs x (Err i) at up =
    let none = searched xs x (Err i) at (not_falling xs (rises xs up)) in
    sym (any_none xs x (λ k less is. elim (split k i) [
      | inl before ↦ let low = none.1 k before in omega (arith, low, is)
      | inr behind ↦ let high = none.2 k behind less in omega (arith, high, is)
    ]))
