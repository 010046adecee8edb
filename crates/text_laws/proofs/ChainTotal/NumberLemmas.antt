-- The numbers of a list, sorted and without duplicates.
use Rattle.std.proofs.Common.{◌≡◌, ◌<◌, ◌⊎◌, ◌↔◌, ℕ, zero, suc, inl, inr, refl, sym, subst, arith, List, [], ◌∷◌, length}
use Rattle.std.specs.Prelude.{Contains, slice_index}
use Rattle.std.specs.List.Sorted.{IsStrictlyIncreasing}
use Rattle.wit_forest.proofs.ReachLaws.ReachLemmas.{from_contains, to_contains}

-- ---- members

abbrev In : List ℕ → ℕ → Type 0
In [] n = ⊥
In (x ∷ xs) n = (x ≡ n) ⊎ In xs n

-- ---- one number more

abbrev Below : ℕ → List ℕ → Type 0
Below n [] = Unit {0}
Below n (x ∷ xs) = n < x

abbrev Rises : List ℕ → Type 0
Rises [] = Unit {0}
Rises (x ∷ xs) = Below x xs × Rises xs

record Put (n : ℕ) (ms : List ℕ) : Type 0 where
  out : List ℕ
  rises : Rises out
  head : (x : ℕ) → x < n → Below x ms → Below x out
  has : (k : ℕ) → In out k → (n ≡ k) ⊎ In ms k
  own : In out n
  keeps : (k : ℕ) → In ms k → In out k

order : (a b : ℕ) → (a < b) ⊎ ((a ≡ b) ⊎ (b < a))
order a b = grind arith

put_before : (n m : ℕ) (ms : List ℕ) → Rises (m ∷ ms) → n < m → Put n (m ∷ ms)
put_before n m ms r less = record {
  out = n ∷ m ∷ ms;
  rises = (less, r);
  head = λ x lt b. lt;
  has = λ k h. h;
  own = inl refl;
  keeps = λ k h. inr h;
}

put_same : (n m : ℕ) (ms : List ℕ) → Rises (m ∷ ms) → n ≡ m → Put n (m ∷ ms)
put_same n m ms r same = record {
  out = m ∷ ms;
  rises = r;
  head = λ x lt b. b;
  has = λ k h. inr h;
  own = inl (sym same);
  keeps = λ k h. h;
}

put_after : (n m : ℕ) (ms : List ℕ) → Rises (m ∷ ms) → m < n → Put n ms → Put n (m ∷ ms)
put_after n m ms r more rest = record {
  out = m ∷ rest.out;
  rises = (rest.head m more r.0, rest.rises);
  head = λ x lt b. b;
  has = has;
  own = inr rest.own;
  keeps = keeps;
}
  where
    later : (k : ℕ) → (n ≡ k) ⊎ In ms k → (n ≡ k) ⊎ ((m ≡ k) ⊎ In ms k)
    later k (inl e) = inl e
    later k (inr h) = inr (inr h)

    has : (k : ℕ) → (m ≡ k) ⊎ In rest.out k → (n ≡ k) ⊎ ((m ≡ k) ⊎ In ms k)
    has k (inl e) = inr (inl e)
    has k (inr h) = later k (rest.has k h)

    keeps : (k : ℕ) → (m ≡ k) ⊎ In ms k → (m ≡ k) ⊎ In rest.out k
    keeps k (inl e) = inl e
    keeps k (inr h) = inr (rest.keeps k h)

put : (n : ℕ) (ms : List ℕ) → Rises ms → Put n ms
put n [] r = record { out = n ∷ []; rises = (tt, tt); head = λ x lt b. lt; has = λ k h. h; own = inl refl; keeps = λ k h. absurd h }
put n (m ∷ ms) r = elim (order n m) [
  | inl less ↦ put_before n m ms r less
  | inr (inl same) ↦ put_same n m ms r same
  | inr (inr more) ↦ put_after n m ms r more (put n ms r.1)
]

-- ---- all numbers

record Ordered (xs : List ℕ) : Type 0 where
  out : List ℕ
  rises : Rises out
  has : (k : ℕ) → In out k → In xs k
  keeps : (k : ℕ) → In xs k → In out k

with_one : (x : ℕ) (xs : List ℕ) (rest : Ordered xs) → Put x rest.out → Ordered (x ∷ xs)
with_one x xs rest one = record {
  out = one.out;
  rises = one.rises;
  has = λ k h. has k (one.has k h);
  keeps = keeps;
}
  where
    has : (k : ℕ) → (x ≡ k) ⊎ In rest.out k → (x ≡ k) ⊎ In xs k
    has k (inl e) = inl e
    has k (inr h) = inr (rest.has k h)

    keeps : (k : ℕ) → (x ≡ k) ⊎ In xs k → In one.out k
    keeps k (inl e) = subst (In one.out) e one.own
    keeps k (inr h) = one.keeps k (rest.keeps k h)

ordered : (xs : List ℕ) → Ordered xs
ordered [] = record { out = []; rises = tt; has = λ k h. h; keeps = λ k h. h }
ordered (x ∷ xs) = let rest = ordered xs in with_one x xs rest (put x rest.out rest.rises)

next_more : (xs : List ℕ) → Rises xs → (k : ℕ) → suc k < length xs → slice_index xs k < slice_index xs (suc k)
next_more [] r k lt = absurd (omega (arith, lt))
next_more (x ∷ []) r k lt = absurd (omega (arith, lt))
next_more (x ∷ y ∷ xs) r zero lt = r.0
next_more (x ∷ y ∷ xs) r (suc k) lt = next_more (y ∷ xs) r.1 k (omega (arith, lt))

increases : (xs : List ℕ) → Rises xs → IsStrictlyIncreasing xs
increases xs r k lt = subst (λ (j : ℕ). slice_index xs k < slice_index xs j) (omega arith) (next_more xs r k (omega (arith, lt)))

-- these numbers, in order
pub record InOrder (xs : List ℕ) : Type 0 where
  pub out : List ℕ
  pub rise : IsStrictlyIncreasing out
  pub same : (n : ℕ) → Contains out n ↔ Contains xs n

pub in_order : (xs : List ℕ) → InOrder xs
in_order xs =
    let o = ordered xs in
    record {
      out = o.out;
      rise = increases o.out o.rises;
      same = λ n. (
        (λ c. to_contains xs n (o.has n (from_contains o.out n c))),
        (λ c. to_contains o.out n (o.keeps n (from_contains xs n c))),
      );
    }
