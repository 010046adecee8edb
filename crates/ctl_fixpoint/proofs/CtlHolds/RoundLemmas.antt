-- Rounds grow, and as many rounds as there are nodes are enough: each round adds nodes, until one adds none.
use Rattle.std.proofs.Common.{◌≡◌, ℕ, suc, zero, ◌+◌, ◌-◌, ◌<◌, ◌≤◌, Bool, true, false, ◌&&◌, ◌||◌, cond, refl, sym, ap}
use Rattle.std.proofs.Common.{◌∙◌, subst, arith, List, [], ◌∷◌, ◌⊎◌, inl, inr, ⊎_elim, add-zero, add-suc, Contains}
use Rattle.std.proofs.lemmas.Bool.{cases_lt}
use Rattle.cfg_build.specs.CfgGraph.Flow.{Flow, IsSound, count_of, succ_of}
use Rattle.ctl_fixpoint.specs.CtlHolds.Rounds.{passes, round, rounds}
use Rattle.ctl_fixpoint.proofs.CtlHolds.TestLemmas.{or_cases, or_left, or_right, and_left, and_right, and_both, any_weaker, all_weaker}
use Rattle.ctl_fixpoint.proofs.CtlHolds.TestLemmas.{any_members, all_members}
use Rattle.ctl_fixpoint.proofs.CtlHolds.GraphLemmas.{node_after}

-- what passes x passes y, for numbers below N
abbrev pub Within : ℕ → (ℕ → Bool) → (ℕ → Bool) → Type 0
Within N x y = (n : ℕ) → n < N → x n ≡ true → y n ≡ true

-- x and y agree for numbers below N
abbrev pub Agree : ℕ → (ℕ → Bool) → (ℕ → Bool) → Type 0
Agree N x y = (n : ℕ) → n < N → x n ≡ y n

abbrev count : (ℕ → Bool) → ℕ → ℕ
count x zero = 0
count x (suc n) = cond (x n) 1 0 + count x n

bit-le : (a b : Bool) → (a ≡ true → b ≡ true) → cond a 1 0 ≤ cond b 1 0
bit-le false false h = omega arith
bit-le false true h = omega arith
bit-le true true h = omega arith
bit-le true false h = absurd (let e = h refl in cc)

bit-same : (a b : Bool) → (a ≡ true → b ≡ true) → cond b 1 0 ≤ cond a 1 0 → a ≡ b
bit-same false false h le = refl
bit-same true true h le = refl
bit-same true false h le = sym (h refl)
bit-same false true h le = absurd (omega arith)

bit-one : (a : Bool) → cond a 1 0 ≤ 1
bit-one true = omega arith
bit-one false = omega arith

count-le : (x : ℕ → Bool) (n : ℕ) → count x n ≤ n
count-le x zero = omega arith
count-le x (suc n) = omega (arith, bit-one (x n), count-le x n)

count-mono : (x y : ℕ → Bool) (n : ℕ) → Within n x y → count x n ≤ count y n
count-mono x y zero s = omega arith
count-mono x y (suc n) s =
    let rest : Within n x y = λ k lt h. s k (omega (arith, lt)) h in
    let here = s n (omega arith) in
    omega (arith, bit-le (x n) (y n) here, count-mono x y n rest)

below_or : (k n : ℕ) → k ≤ n → (k < n) ⊎ (k ≡ n)
below_or k n h = ⊎_elim (λ lt. inl lt) (λ ge. inr (omega arith)) (cases_lt k n)

-- if no more nodes pass, the same nodes pass
count-same : (x y : ℕ → Bool) (n : ℕ) → Within n x y → count y n ≤ count x n → Agree n x y
count-same x y zero s h k lt = absurd (omega (arith, lt))
count-same x y (suc n) s h k lt =
    let below : Within n x y = λ k lt h. s k (omega (arith, lt)) h in
    let here = s n (omega arith) in
    let a = count-mono x y n below in
    let b = bit-le (x n) (y n) here in
    let same = bit-same (x n) (y n) here (omega (arith, a, b, h)) in
    let rest = count-same x y n below (omega (arith, a, b, h)) in
    ⊎_elim (λ less. rest k less) (λ (is : k ≡ n). rw is same) (below_or k n (omega (arith, lt)))

pub passes-members : (every : Bool) (x y : ℕ → Bool) (l : List ℕ) → ((k : ℕ) → Contains l k → x k ≡ y k)
    → passes every x l ≡ passes every y l
passes-members true x y l h = all_members x y l h
passes-members false x y l h = any_members x y l h

pub passes-weaker : (every : Bool) (x y : ℕ → Bool) (l : List ℕ) → ((k : ℕ) → Contains l k → x k ≡ true → y k ≡ true)
    → passes every x l ≡ true → passes every y l ≡ true
passes-weaker true x y l h = all_weaker x y l h
passes-weaker false x y l h = any_weaker x y l h

module _ (g : Flow) (ok : IsSound g) (every : Bool) where
  pub passes-agree : (x y : ℕ → Bool) → Agree (count_of g) x y → (n : ℕ) → n < count_of g
      → passes every x (succ_of g n) ≡ passes every y (succ_of g n)
  passes-agree x y a n lt = passes-members every x y (succ_of g n) (λ k c. a k (node_after g ok n k lt c))

  -- two untils whose parts agree at each node agree there after any number of rounds
  pub rounds-agree : (p q p' q' : ℕ → Bool) → Agree (count_of g) p p' → Agree (count_of g) q q' → (k : ℕ)
      → Agree (count_of g) (rounds g every p q k) (rounds g every p' q' k)
  rounds-agree p q p' q' a b zero n lt = refl
  rounds-agree p q p' q' a b (suc k) n lt =
      let e = a n lt in let f = b n lt in
      let h = passes-agree _ _ (rounds-agree p q p' q' a b k) n lt in
      cc

  module _ (p q : ℕ → Bool) where
    pub round-mono : (x y : ℕ → Bool) → Within (count_of g) x y
        → Within (count_of g) (round g every p q x) (round g every p q y)
    round-mono x y s n lt h = ⊎_elim
        (λ here. or_left (q n) _ here)
        (λ next. or_right (q n) _ (and_both (p n) _ (and_left (p n) _ next)
        (passes-weaker every x y (succ_of g n) (λ k c. s k (node_after g ok n k lt c)) (and_right (p n) _ next))))
        (or_cases (q n) _ h)

    pub rounds-grow : (k : ℕ) → Within (count_of g) (rounds g every p q k) (rounds g every p q (suc k))
    rounds-grow zero n lt h = absurd (cc)
    rounds-grow (suc k) n lt h = round-mono (rounds g every p q k) (rounds g every p q (suc k)) (rounds-grow k) n lt h

    abbrev pub Stable : ℕ → Type 0
    Stable k = Agree (count_of g) (rounds g every p q k) (rounds g every p q (suc k))

    stable-next : (k : ℕ) → Stable k → Stable (suc k)
    stable-next k s n lt = ap (λ b. q n || (p n && b)) (passes-agree _ _ s n lt)

    stable-all : (k j : ℕ) → Stable k → Stable (k + j)
    stable-all k zero s = rw add-zero s
    stable-all k (suc j) s = rw add-suc (stable-next (k + j) (stable-all k j s))

    stable-after : (k j : ℕ) → Stable k → Agree (count_of g) (rounds g every p q k) (rounds g every p q (k + j))
    stable-after k zero s n lt = rw add-zero refl
    stable-after k (suc j) s n lt = rw add-suc (stable-after k j s n lt ∙ stable-all k j s n lt)

    grown : (k : ℕ) → (k ≤ count (rounds g every p q k) (count_of g)) ⊎ Stable k
    grown zero = inl (omega arith)
    grown (suc k) = ⊎_elim
        (λ h. ⊎_elim
        (λ lt. inl (omega (arith, h, lt)))
        (λ ge. inr (stable-next k (count-same _ _ (count_of g) (rounds-grow k) ge)))
        (cases_lt (count (rounds g every p q k) (count_of g)) (count (rounds g every p q (suc k)) (count_of g))))
        (λ s. inr (stable-next k s))
        (grown k)

    -- one round more than there are nodes adds nothing
    pub stable-count : Stable (count_of g)
    stable-count = ⊎_elim
        (λ h.
        let le = count-le (rounds g every p q (suc (count_of g))) (count_of g) in
        count-same _ _ (count_of g) (rounds-grow (count_of g)) (omega (arith, h, le)))
        (λ s. s)
        (grown (count_of g))

    pub settled : (m : ℕ) → count_of g ≤ m → Agree (count_of g) (rounds g every p q (count_of g)) (rounds g every p q m)
    settled m h =
        let is : count_of g + (m - count_of g) ≡ m = omega (arith, h) in
        subst (λ k. Agree (count_of g) (rounds g every p q (count_of g)) (rounds g every p q k)) is
        (stable-after (count_of g) (m - count_of g) stable-count)
