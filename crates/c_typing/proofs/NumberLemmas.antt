-- Numbers by name: what a look-up finds, and what it finds when one name has another number.
use Rattle.std.proofs.Common.{◌≡◌, ℕ, zero, suc, ◌+◌, ◌<◌, ◌≤◌, Bool, true, false, ◌||◌, not, cond, nat_eq, nat_lt, refl, sym, ap, ◌∙◌, arith}
use Rattle.std.proofs.Common.{List, [], ◌∷◌, ◌++◌, map, length, get_or, Some, None}
use Rattle.std.specs.Prelude.{slice_set as set}
use Rattle.std.specs.List.{list_any, position, position_or_len}
use Rattle.std.specs.Cmp.Lexicographic.{pointwise}
use Rattle.std.proofs.lemmas.Bool.{ltb-false}
use Rattle.std.proofs.lemmas.List.{length-map}
use Rattle.c_terms.specs.Same.{same_bytes}
use Rattle.c_terms.specs.Names.{has_name}
use Rattle.c_terms.proofs.NamesLemmas.{pointwise-same, put-new}
use Rattle.c_terms.proofs.SameLaws.{bytes-sym}
use Rattle.c_terms.proofs.BareLaws.{same_bytes-equal}

-- the place of a name
abbrev pub place : List (List ℕ) → List ℕ → ℕ
place names name = position_or_len (same_bytes name) names

-- a place past the end has 0
past : (xs : List ℕ) (i : ℕ) → length xs ≤ i → get_or xs i 0 ≡ 0
past [] zero h = refl
past [] (suc i) h = refl
past (x ∷ xs) zero h = absurd (omega (arith, h))
past (x ∷ xs) (suc i) h = past xs i (omega (arith, h))

-- a number at one of the places, whatever stands for those past the end
pub number-within : (xs : List ℕ) (i n : ℕ) → i < length xs → n ≡ get_or xs i n → n ≡ get_or xs i 0
number-within [] i n h e = absurd (omega (arith, h))
number-within (x ∷ xs) zero n h e = e
number-within (x ∷ xs) (suc i) n h e = number-within xs i n (omega (arith, h)) e

module _ {K : Type 0} (f : K → List ℕ) where
  -- a look-up among keys is one among their names
  pub key-place : (keys : List K) (name : List ℕ) → position_or_len (λ k. pointwise nat_eq name (f k)) keys ≡ place (map f keys) name
  key-place [] name = refl
  key-place (k ∷ keys) name =
      let e = pointwise-same name (f k) in let r = key-place keys name in λ i. cond (not (e i)) (1 + r i) 0

  module _ (keys : List K) (numbers : List ℕ) (name : List ℕ) where
    -- the place that a look-up finds
    pub found-place : (i : ℕ) → Some i ≡ position (λ k. pointwise nat_eq name (f k)) keys → i ≡ place (map f keys) name
    found-place i h = by (nat_lt (position_or_len (λ k. pointwise nat_eq name (f k)) keys) (length keys)) h ∙ key-place keys name
      where
        by : (b : Bool) → Some i ≡ cond b (Some (position_or_len (λ k. pointwise nat_eq name (f k)) keys)) None
            → i ≡ position_or_len (λ k. pointwise nat_eq name (f k)) keys
        by true e = cc
        by false e = absurd (cc)

    -- a name that isn't found has no number
    pub none-found : length numbers ≡ length keys → None ≡ position (λ k. pointwise nat_eq name (f k)) keys
        → 0 ≡ get_or numbers (place (map f keys) name) 0
    none-found even h = by (nat_lt (position_or_len (λ k. pointwise nat_eq name (f k)) keys) (length keys)) refl h
      where
        by : (b : Bool) → nat_lt (position_or_len (λ k. pointwise nat_eq name (f k)) keys) (length keys) ≡ b
            → None ≡ cond b (Some (position_or_len (λ k. pointwise nat_eq name (f k)) keys)) None → 0 ≡ get_or numbers (place (map f keys) name) 0
        by true t e = absurd (cc)
        by false t e =
            let far : length numbers ≤ position_or_len (λ k. pointwise nat_eq name (f k)) keys =
            omega (arith, even, ltb-false (position_or_len (λ k. pointwise nat_eq name (f k)) keys) (length keys) t) in
            sym (past numbers (position_or_len (λ k. pointwise nat_eq name (f k)) keys) far) ∙ ap (λ i. get_or numbers i 0) (key-place keys name)

-- a name that is the same as another is the same as what that one is the same as
alike : (x n m : List ℕ) (b : Bool) → same_bytes x m ≡ true → same_bytes n m ≡ b → same_bytes x n ≡ b
alike x n m b h k = bytes-sym x n ∙ ap (same_bytes n) (same_bytes-equal x m h) ∙ k

one-more : (p : ℕ) → 1 + p ≡ suc p
one-more p = omega arith

-- a name that is there gets another number
pub known-set : (names : List (List ℕ)) (numbers : List ℕ) (n x : List ℕ) (v : ℕ) → length numbers ≡ length names → place names n < length names
    → get_or (set numbers (place names n) v) (place names x) 0 ≡ cond (same_bytes x n) v (get_or numbers (place names x) 0)
known-set [] numbers n x v even lt = absurd (omega (arith, lt))
known-set (m ∷ names) [] n x v even lt = absurd (omega (arith, even))
known-set (m ∷ names) (y ∷ numbers) n x v even lt =
    by (same_bytes n m) (same_bytes x m) refl refl lt (λ l. known-set names numbers n x v (omega (arith, even)) l)
  where
    by : (a b : Bool) → same_bytes n m ≡ a → same_bytes x m ≡ b → cond (not a) (1 + place names n) 0 < suc (length names)
        → (place names n < length names
        → get_or (set numbers (place names n) v) (place names x) 0 ≡ cond (same_bytes x n) v (get_or numbers (place names x) 0))
        → get_or (set (y ∷ numbers) (cond (not a) (1 + place names n) 0) v) (cond (not b) (1 + place names x) 0) 0
        ≡ cond (same_bytes x n) v (get_or (y ∷ numbers) (cond (not b) (1 + place names x) 0) 0)
    by true true e h l r = rw (alike x n m true h e) refl
    by true false e h l r =
        let apart : same_bytes x n ≡ false = ap (same_bytes x) (same_bytes-equal n m e) ∙ h in
        rw (apart, one-more (place names x)) refl
    by false true e h l r = rw (alike x n m false h e, one-more (place names n)) refl
    by false false e h l r = rw (one-more (place names n), one-more (place names x)) (r (omega (arith, l)))

-- a new name gets a number
pub new-put : (names : List (List ℕ)) (numbers : List ℕ) (n x : List ℕ) (v : ℕ) → length numbers ≡ length names → length names ≤ place names n
    → get_or (numbers ++ v ∷ []) (place (names ++ n ∷ []) x) 0 ≡ cond (same_bytes x n) v (get_or numbers (place names x) 0)
new-put [] [] n x v even lt = by (same_bytes x n)
  where
    by : (b : Bool) → get_or (v ∷ []) (cond (not b) (1 + 0) 0) 0 ≡ cond b v 0
    by true = refl
    by false = refl
new-put [] (y ∷ numbers) n x v even lt = absurd (omega (arith, even))
new-put (m ∷ names) [] n x v even lt = absurd (omega (arith, even))
new-put (m ∷ names) (y ∷ numbers) n x v even lt =
    by (same_bytes n m) (same_bytes x m) refl refl lt (λ l. new-put names numbers n x v (omega (arith, even)) l)
  where
    by : (a b : Bool) → same_bytes n m ≡ a → same_bytes x m ≡ b → suc (length names) ≤ cond (not a) (1 + place names n) 0
        → (length names ≤ place names n
        → get_or (numbers ++ v ∷ []) (place (names ++ n ∷ []) x) 0 ≡ cond (same_bytes x n) v (get_or numbers (place names x) 0))
        → get_or (y ∷ (numbers ++ v ∷ [])) (cond (not b) (1 + place (names ++ n ∷ []) x) 0) 0
        ≡ cond (same_bytes x n) v (get_or (y ∷ numbers) (cond (not b) (1 + place names x) 0) 0)
    by true b e h l r = absurd (omega (arith, l))
    by false true e h l r = rw (alike x n m false h e) refl
    by false false e h l r = rw (one-more (place (names ++ n ∷ []) x), one-more (place names x)) (r (omega (arith, l)))

-- a name that isn't found is put last
new-place : (names : List (List ℕ)) (n : List ℕ) → length names ≤ place names n → list_any (same_bytes n) names ≡ false
new-place [] n l = refl
new-place (m ∷ names) n l = by (same_bytes n m) l (new-place names n)
  where
    by : (a : Bool) → suc (length names) ≤ cond (not a) (1 + place names n) 0 → (length names ≤ place names n → list_any (same_bytes n) names ≡ false)
        → (a || list_any (same_bytes n) names) ≡ false
    by true l r = absurd (omega (arith, l))
    by false l r = r (omega (arith, l))

module _ {K : Type 0} (f : K → List ℕ) (keys : List K) (name : List ℕ) (none : None ≡ position (λ k. pointwise nat_eq name (f k)) keys) where
  -- its place would be the end
  pub place-end : length (map f keys) ≤ place (map f keys) name
  place-end = by (nat_lt (position_or_len (λ k. pointwise nat_eq name (f k)) keys) (length keys)) refl none
    where
      by : (b : Bool) → nat_lt (position_or_len (λ k. pointwise nat_eq name (f k)) keys) (length keys) ≡ b
          → None ≡ cond b (Some (position_or_len (λ k. pointwise nat_eq name (f k)) keys)) None → length (map f keys) ≤ place (map f keys) name
      by true t e = absurd (cc)
      by false t e =
          let far : length keys ≤ position_or_len (λ k. pointwise nat_eq name (f k)) keys =
          ltb-false (position_or_len (λ k. pointwise nat_eq name (f k)) keys) (length keys) t in
          omega (arith, far, length-map keys f, key-place f keys name)

  pub put-key : (k : K) → f k ≡ name
      → map f (cond (list_any (λ x. pointwise nat_eq (f k) (f x)) keys) keys (keys ++ k ∷ [])) ≡ map f keys ++ name ∷ []
  put-key k e =
      let absent : has_name (map f keys) name ≡ false = new-place (map f keys) name place-end in
      put-new f keys k name e absent ∙ ap (λ b. cond b (map f keys) (map f keys ++ name ∷ [])) absent
