-- Lists in which no id is twice.
use Rattle.std.proofs.Common.{◌≡◌, ℕ, false, nat_eq, sym, subst, ◌∙◌, ◌⊎◌, inl, inr, eq-eqb, true≢false, List, [], ◌∷◌, ◌++◌}
use Rattle.std.specs.List.{AllByRecursion, IsDistinct}

-- the id is in the list
abbrev pub IsAmong : ℕ → List ℕ → Type 0
IsAmong x [] = ⊥
IsAmong x (y ∷ ys) = (x ≡ y) ⊎ IsAmong x ys

pub among-left : (x : ℕ) (xs ys : List ℕ) → IsAmong x xs → IsAmong x (xs ++ ys)
among-left x [] ys h = absurd h
among-left x (z ∷ xs) ys (inl e) = inl e
among-left x (z ∷ xs) ys (inr h) = inr (among-left x xs ys h)

pub among-right : (x : ℕ) (xs ys : List ℕ) → IsAmong x ys → IsAmong x (xs ++ ys)
among-right x [] ys h = h
among-right x (z ∷ xs) ys h = inr (among-right x xs ys h)

abbrev pub Differs : ℕ → ℕ → Type 0
Differs z y = nat_eq z y ≡ false

pub differs : (z x : ℕ) (ys : List ℕ) → AllByRecursion (Differs z) ys → IsAmong x ys → Differs z x
differs z x [] a h = absurd h
differs z x (y ∷ ys) a (inl e) = subst (Differs z) (sym e) a.0
differs z x (y ∷ ys) a (inr h) = differs z x ys a.1 h

pub front : (z : ℕ) (xs ys : List ℕ) → AllByRecursion (Differs z) (xs ++ ys) → AllByRecursion (Differs z) xs
front z [] ys a = tt
front z (x ∷ xs) ys a = (a.0, front z xs ys a.1)

pub distinct-left : (xs ys : List ℕ) → IsDistinct nat_eq (xs ++ ys) → IsDistinct nat_eq xs
unfolding IsDistinct
distinct-left [] ys d = tt
distinct-left (x ∷ xs) ys d = (front x xs ys d.0, distinct-left xs ys d.1)

pub distinct-right : (xs ys : List ℕ) → IsDistinct nat_eq (xs ++ ys) → IsDistinct nat_eq ys
unfolding IsDistinct
distinct-right [] ys d = d
distinct-right (x ∷ xs) ys d = distinct-right xs ys d.1

-- no id is in both parts
pub apart : (x : ℕ) (xs ys : List ℕ) → IsDistinct nat_eq (xs ++ ys) → IsAmong x xs → IsAmong x ys → ⊥
unfolding IsDistinct
apart x [] ys d g h = g
apart x (z ∷ xs) ys d (inl e) h = true≢false (sym (eq-eqb z x (sym e)) ∙ differs z x (xs ++ ys) d.0 (among-right x xs ys h))
apart x (z ∷ xs) ys d (inr g) h = apart x xs ys d.1 g h
