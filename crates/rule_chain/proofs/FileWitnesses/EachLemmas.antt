-- Properties of lists that hold at each index.
use Rattle.std.proofs.Common.{◌≡◌, ◌<◌, ◌+◌, ℕ, zero, suc, refl, ap, sym, ◌∙◌, subst, arith, List, [], ◌∷◌, ◌++◌, length, get_or}
use Rattle.std.proofs.lemmas.List.{length-append}

-- if the property holds at each index and of one more element, it holds at each index after that element is pushed
pub pushed : {A : Type 0} (P : ℕ → A → Type 0) (d : A) (xs : List A) (x : A) → ((j : ℕ) → j < length xs → P j (get_or xs j d)) → P (length xs) x
    → (j : ℕ) → j < length xs + 1 → P j (get_or (xs ++ x ∷ []) j d)
pushed P d [] x h here zero lt = here
pushed P d [] x h here (suc j) lt = absurd (omega (arith, lt))
pushed P d (y ∷ ys) x h here zero lt = h 0 (omega arith)
pushed P d (y ∷ ys) x h here (suc j) lt =
    pushed (λ (k : ℕ). P (suc k)) d ys x (λ k low. h (suc k) (omega (arith, low))) here j (omega (arith, lt))

pub length_push : {A : Type 0} (xs : List A) (x : A) → length (xs ++ x ∷ []) ≡ length xs + 1
length_push xs x = length-append xs (x ∷ [])

-- the same, with the next list given by an equation
module _ {A : Type 0} (P : ℕ → A → Type 0) (d : A) (xs next : List A) (x : A) (is : next ≡ xs ++ x ∷ []) where
  pub next_each : ((j : ℕ) → j < length xs → P j (get_or xs j d)) → P (length xs) x → (j : ℕ) → j < length next → P j (get_or next j d)
  next_each h here j lt =
      subst (λ ys. P j (get_or ys j d)) (sym is)
      (pushed P d xs x h here j (omega (arith, lt, ap length is ∙ length_push xs x)))

  pub next_length : length next ≡ length xs + 1
  next_length = ap length is ∙ length_push xs x

-- the element at an index within the list doesn't depend on the default
pub any_default : {A : Type 0} (xs : List A) (i : ℕ) (d e : A) → i < length xs → get_or xs i d ≡ get_or xs i e
any_default [] i d e lt = absurd (omega (arith, lt))
any_default (x ∷ xs) zero d e lt = refl
any_default (x ∷ xs) (suc i) d e lt = any_default xs i d e (omega (arith, lt))
