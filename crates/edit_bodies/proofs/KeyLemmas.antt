-- Lists that are sorted by a key are equal if they have the same elements with each key, in the same order.
use Rattle.std.proofs.Common.{◌≡◌, ◌<◌, ◌≤◌, ℕ, suc, Bool, true, false, refl, sym, ap, ◌∙◌, arith, cond, inl, inr}
use Rattle.std.proofs.Common.{List, [], ◌∷◌, length, get_or, filter}
use Rattle.std.specs.Prelude.{nat_eq}
use Rattle.std.specs.List.Sorted.{IsNonDecreasingBy}
use Rattle.std.proofs.lemmas.Bool.{cases_lt}
use Rattle.std.proofs.lemmas.Bool.Decides.{nat_tests}

equal : (n : ℕ) → nat_eq n n ≡ true
equal n = grind (arith, nat_tests)

above : (m n : ℕ) → n < m → nat_eq m n ≡ false
above m n less = grind (arith, nat_tests)

module _ {X : Type 0} (key : X → ℕ) where
  abbrev with_key : ℕ → List X → List X
  with_key n xs = filter (λ x. nat_eq (key x) n) xs

  none_above : (n : ℕ) (xs : List X) → ((i : ℕ) (d : X) → i < length xs → n < key (get_or xs i d)) → with_key n xs ≡ []
  none_above n [] more = refl
  none_above n (x ∷ xs) more =
      ap (λ (b : Bool). cond b (x ∷ with_key n xs) (with_key n xs)) (above (key x) n (more 0 x (omega arith)))
      ∙ none_above n xs (λ i d less. more (suc i) d (omega arith))

  own_key : (x : X) (xs : List X) → with_key (key x) (x ∷ xs) ≡ x ∷ with_key (key x) xs
  own_key x xs = ap (λ (b : Bool). cond b (x ∷ with_key (key x) xs) (with_key (key x) xs)) (equal (key x))

  -- the first key of a list that has an element with this key
  first_key : (x : X) (xs : List X) (y : X) (ys : List X) → IsNonDecreasingBy key (y ∷ ys)
      → with_key (key x) (x ∷ xs) ≡ with_key (key x) (y ∷ ys) → key y ≤ key x
  first_key x xs y ys rise e = elim (cases_lt (key x) (key y)) [
    | inl less ↦
        let none : with_key (key x) (y ∷ ys) ≡ [] = none_above (key x) (y ∷ ys) (λ i d within.
        let up : key y ≤ key (get_or (y ∷ ys) i d) = rise 0 i d (omega arith) within in omega (arith, less, up)) in
        let both : x ∷ with_key (key x) xs ≡ [] = sym (own_key x xs) ∙ e ∙ none in
        absurd cc
    | inr more ↦ more
  ]

  same_head : (b c : Bool) (x y : X) (xs ys : List X) → b ≡ true → c ≡ true → cond b (x ∷ xs) xs ≡ cond c (y ∷ ys) ys → x ≡ y
  same_head true true x y xs ys b c e = cc
  same_head true false x y xs ys b c e = absurd cc
  same_head false c x y xs ys b d e = absurd cc

  same_tail : (b c : Bool) (x y : X) (xs ys : List X) → b ≡ c → cond b (x ∷ xs) xs ≡ cond c (y ∷ ys) ys → xs ≡ ys
  same_tail true true x y xs ys b e = cc
  same_tail true false x y xs ys b e = absurd cc
  same_tail false true x y xs ys b e = absurd cc
  same_tail false false x y xs ys b e = e

  tail_rises : (x : X) (xs : List X) → IsNonDecreasingBy key (x ∷ xs) → IsNonDecreasingBy key xs
  tail_rises x xs rise = λ i j d le within. rise (suc i) (suc j) d (omega arith) (omega arith)

  pub same_by_keys : (xs ys : List X) → IsNonDecreasingBy key xs → IsNonDecreasingBy key ys
      → ((n : ℕ) → filter (λ x. nat_eq (key x) n) xs ≡ filter (λ x. nat_eq (key x) n) ys) → xs ≡ ys
  same_by_keys [] [] up rise e = refl
  same_by_keys [] (y ∷ ys) up rise e = let both : [] ≡ y ∷ with_key (key y) ys = e (key y) ∙ own_key y ys in absurd cc
  same_by_keys (x ∷ xs) [] up rise e = let both : [] ≡ x ∷ with_key (key x) xs = sym (e (key x)) ∙ own_key x xs in absurd cc
  same_by_keys (x ∷ xs) (y ∷ ys) up rise e =
      let low : key y ≤ key x = first_key x xs y ys rise (e (key x)) in
      let high : key x ≤ key y = first_key y ys x xs up (sym (e (key y))) in
      let same : key x ≡ key y = omega (arith, low, high) in
      let head : x ≡ y = same_head (nat_eq (key x) (key x)) (nat_eq (key y) (key x)) x y (with_key (key x) xs) (with_key (key x) ys) (equal (key x))
      (ap (λ (k : ℕ). nat_eq k (key x)) (sym same) ∙ equal (key x)) (e (key x)) in
      let rest : xs ≡ ys = same_by_keys xs ys (tail_rises x xs up) (tail_rises y ys rise) (λ n.
      same_tail (nat_eq (key x) n) (nat_eq (key y) n) x y (with_key n xs) (with_key n ys) (ap (λ (k : ℕ). nat_eq k n) same) (e n)) in
      λ i. head i ∷ rest i
