-- The elements with one key, in a list that is sorted by it.
use Rattle.std.proofs.Common.{◌≡◌, ◌<◌, ◌≤◌, ◌+◌, ◌==◌, ℕ, zero, suc, Bool, true, false, refl, sym, ap, ◌∙◌, arith, subst, cond}
use Rattle.std.proofs.Common.{List, [], ◌∷◌, length, length-drop, get_or, take, drop, filter, ltb, ◌-◌}
use Rattle.std.specs.List.{prefix_len}
use Rattle.std.specs.List.Sorted.{IsNonDecreasingBy, IsPartitionPoint}
use Rattle.std.proofs.lemmas.Bool.Decides.{nat_tests}
use Rattle.std.proofs.lemmas.List.{take_all}

one_more : (n : ℕ) → 1 + n ≡ suc n
one_more n = omega arith

above : (a b : ℕ) → b < a → (a == b) ≡ false
above a b less = grind (arith, nat_tests)

below : (a b : ℕ) → a < b → (a == b) ≡ false
below a b less = grind (arith, nat_tests)

not_below : (a b : ℕ) → ltb a b ≡ false → b ≤ a
not_below a b h = grind (arith, nat_tests)

is_below : (a b : ℕ) → ltb a b ≡ true → a < b
is_below a b h = grind (arith, nat_tests)

next : (a b : ℕ) → (a == b) ≡ false → b ≤ a → b < a
next a b other least = grind (arith, nat_tests)

pub tail_rises : {X : Type 0} (n : X → ℕ) (x : X) (xs : List X) → IsNonDecreasingBy n (x ∷ xs) → IsNonDecreasingBy n xs
tail_rises n x xs rises = λ i j d le within. rises (suc i) (suc j) d (omega arith) (omega arith)

none_above : {X : Type 0} (n : X → ℕ) (k : ℕ) (xs : List X) → ((i : ℕ) (d : X) → i < length xs → k < n (get_or xs i d)) → filter (λ y. n y == k) xs ≡ []
none_above n k [] more = refl
none_above n k (x ∷ xs) more =
    ap (λ b. cond b (x ∷ filter (λ y. n y == k) xs) (filter (λ y. n y == k) xs)) (above (n x) k (more 0 x (omega arith)))
    ∙ none_above n k xs (λ i d less. more (suc i) d (omega arith))

pub front_is : {X : Type 0} (n : X → ℕ) (k : ℕ) (xs : List X) → IsNonDecreasingBy n xs → ((i : ℕ) (d : X) → i < length xs → k ≤ n (get_or xs i d))
    → take (prefix_len (λ y. n y == k) xs) xs ≡ filter (λ y. n y == k) xs
front_is n k [] rises least = refl
front_is {X} n k (x ∷ xs) rises least = by (n x == k) refl (front_is n k xs (tail_rises n x xs rises) (λ i d less. least (suc i) d (omega arith)))
  where
    by : (b : Bool) → (n x == k) ≡ b → take (prefix_len (λ y. n y == k) xs) xs ≡ filter (λ y. n y == k) xs
        → take (prefix_len (λ y. n y == k) (x ∷ xs)) (x ∷ xs) ≡ filter (λ y. n y == k) (x ∷ xs)
    by true e rest =
        let len : prefix_len (λ y. n y == k) (x ∷ xs) ≡ suc (prefix_len (λ y. n y == k) xs) =
        ap (λ b. cond b (1 + prefix_len (λ y. n y == k) xs) 0) e ∙ one_more (prefix_len (λ y. n y == k) xs) in
        (λ i. take (len i) (x ∷ xs))
        ∙ ap (λ (l : List X). x ∷ l) rest
        ∙ sym (ap (λ b. cond b (x ∷ filter (λ y. n y == k) xs) (filter (λ y. n y == k) xs)) e)
    by false e rest =
        let len : prefix_len (λ y. n y == k) (x ∷ xs) ≡ 0 = ap (λ b. cond b (1 + prefix_len (λ y. n y == k) xs) 0) e in
        let more : k < n x = next (n x) k e (least 0 x (omega arith)) in
        let none : filter (λ y. n y == k) xs ≡ [] = none_above n k xs (λ i d less.
        let up : n x ≤ n (get_or xs i d) = rises 0 (suc i) d (omega arith) (omega arith) in omega arith) in
        (λ i. take (len i) (x ∷ xs)) ∙ sym (ap (λ b. cond b (x ∷ filter (λ y. n y == k) xs) (filter (λ y. n y == k) xs)) e ∙ none)

-- behind those with a lesser key
pub equal_keys : {X : Type 0} (n : X → ℕ) (k : ℕ) (xs : List X) (from : ℕ) → IsNonDecreasingBy n xs
    → IsPartitionPoint (λ y. ltb (n y) k ≡ true) (λ y. ltb (n y) k ≡ false) xs from
    → take (prefix_len (λ y. n y == k) (drop from xs)) (drop from xs) ≡ filter (λ y. n y == k) xs
equal_keys n k xs zero rises apart = front_is n k xs rises (λ i d less. not_below (n (get_or xs i d)) k (apart.1 i d (omega arith) less))
equal_keys n k [] (suc from) rises apart = refl
equal_keys n k (x ∷ xs) (suc from) rises apart =
    equal_keys n k xs from (tail_rises n x xs rises)
    (λ i d low high. apart.0 (suc i) d (omega arith) (omega arith), λ i d low high. apart.1 (suc i) d (omega arith) (omega arith))
    ∙ sym (ap (λ b. cond b (x ∷ filter (λ y. n y == k) xs) (filter (λ y. n y == k) xs))
    (below (n x) k (is_below (n x) k (apart.0 0 x (omega arith) (omega arith)))))

-- the same of slices, whose list and key are known by equations
pub slice_keys : {X : Type 0} (n : X → ℕ) (xs ys : List X) (k key from run : ℕ) → IsNonDecreasingBy n xs → ys ≡ xs → key ≡ k
    → IsPartitionPoint (λ y. ltb (n y) key ≡ true) (λ y. ltb (n y) key ≡ false) ys from
    → run ≡ prefix_len (λ y. n y == key) (take (length ys - from) (drop from ys))
    → take run (take (length ys - from) (drop from ys)) ≡ filter (λ y. n y == k) xs
slice_keys {X} n xs ys k key from run rises is same apart count =
    let point : IsPartitionPoint (λ y. ltb (n y) k ≡ true) (λ y. ltb (n y) k ≡ false) xs from =
    subst (λ (l : List X). IsPartitionPoint (λ y. ltb (n y) k ≡ true) (λ y. ltb (n y) k ≡ false) l from) is
    (subst (λ (z : ℕ). IsPartitionPoint (λ y. ltb (n y) z ≡ true) (λ y. ltb (n y) z ≡ false) ys from) same apart) in
    let rest : take (length ys - from) (drop from ys) ≡ drop from xs =
    take_all (length ys - from) (drop from ys) (omega (arith, length-drop from ys)) ∙ ap (drop from) is in
    ap (λ (r : ℕ). take r (take (length ys - from) (drop from ys))) (count ∙ (λ i. prefix_len (λ y. n y == same i) (rest i)))
    ∙ ap (take (prefix_len (λ y. n y == k) (drop from xs))) rest
    ∙ equal_keys n k xs from rises point
