-- Acts in lists of acts.
use Rattle.std.proofs.Common.{◌≡◌, ◌⊎◌, ◌||◌, ℕ, zero, suc, Bool, true, false, refl, sym, ap, ◌∙◌, inl, inr, List, [], ◌∷◌}
use Rattle.std.proofs.Common.{◌++◌, filter, take, drop, subst, cond}
use Rattle.std.specs.List.{list_any}
use Rattle.std.proofs.lemmas.Bool.Decides.{Decides-eqb}
use Rattle.edit_marks.specs.declared.edit_conflict.mark.Mark.{Mark}
use Rattle.edit_marks.specs.EditConflict.Marks.{is_at}

abbrev pub In : Mark → List Mark → Type 0
In m [] = ⊥
In m (x ∷ xs) = (m ≡ x) ⊎ In m xs

pub In-left : (m : Mark) (xs ys : List Mark) → In m xs → In m (xs ++ ys)
In-left m [] ys h = absurd h
In-left m (x ∷ xs) ys h = elim h [ inl e ↦ inl e | inr k ↦ inr (In-left m xs ys k) ]

pub In-right : (m : Mark) (xs ys : List Mark) → In m ys → In m (xs ++ ys)
In-right m [] ys h = h
In-right m (x ∷ xs) ys h = inr (In-right m xs ys h)

pub In-either : (m : Mark) (xs ys : List Mark) → In m (xs ++ ys) → In m xs ⊎ In m ys
In-either m [] ys h = inr h
In-either m (x ∷ xs) ys h = elim h [
  | inl e ↦ inl (inl e)
  | inr k ↦ elim (In-either m xs ys k) [ inl l ↦ inl (inr l) | inr r ↦ inr r ]
]

pub In-drop : (m : Mark) (n : ℕ) (xs : List Mark) → In m (drop n xs) → In m xs
In-drop m zero xs h = h
In-drop m (suc n) [] h = h
In-drop m (suc n) (x ∷ xs) h = inr (In-drop m n xs h)

pub In-take : (m : Mark) (n : ℕ) (xs : List Mark) → In m (take n xs) → In m xs
In-take m zero xs h = absurd h
In-take m (suc n) [] h = h
In-take m (suc n) (x ∷ xs) h = elim h [ inl e ↦ inl e | inr k ↦ inr (In-take m n xs k) ]

pub In-split : (m : Mark) (n : ℕ) (xs : List Mark) → In m xs → In m (take n xs) ⊎ In m (drop n xs)
In-split m zero xs h = inr h
In-split m (suc n) [] h = absurd h
In-split m (suc n) (x ∷ xs) h = elim h [
  | inl e ↦ inl (inl e)
  | inr k ↦ elim (In-split m n xs k) [ inl l ↦ inl (inr l) | inr r ↦ inr r ]
]

-- what a filter keeps
pub In-filter : (p : Mark → Bool) (m : Mark) (xs : List Mark) → p m ≡ true → In m xs → In m (filter p xs)
In-filter p m [] t h = h
In-filter p m (x ∷ xs) t h = elim h [
  | inl e ↦ subst (λ b. In m (cond b (x ∷ filter p xs) (filter p xs))) (sym t ∙ ap p e) (inl e)
  | inr k ↦ elim (p x) as (λ b. In m (cond b (x ∷ filter p xs) (filter p xs))) [
    | true ↦ inr (In-filter p m xs t k)
    | false ↦ In-filter p m xs t k
  ]
]

pub In-kept : (p : Mark → Bool) (m : Mark) (xs : List Mark) → In m (filter p xs) → In m xs
In-kept p m [] h = h
In-kept p m (x ∷ xs) h = by (p x) (In-kept p m xs) h
  where
    by : (b : Bool) → (In m (filter p xs) → In m xs) → In m (cond b (x ∷ filter p xs) (filter p xs)) → (m ≡ x) ⊎ In m xs
    by true rest g = elim g [ inl e ↦ inl e | inr k ↦ inr (rest k) ]
    by false rest g = inr (rest g)

-- lists that have the same acts at each token have the same acts
pub In-same : (xs ys : List Mark) → ((token : ℕ) → filter (is_at token) xs ≡ filter (is_at token) ys) → (m : Mark) → In m xs → In m ys
In-same xs ys same m h =
    In-kept (is_at m.token) m ys (subst (In m) (same m.token) (In-filter (is_at m.token) m xs ((Decides-eqb m.token m.token).1 refl) h))

-- an act that passes a test
pub In-any : (test : Mark → Bool) (m : Mark) (xs : List Mark) → In m xs → test m ≡ true → list_any test xs ≡ true
In-any test m [] h t = absurd h
In-any test m (x ∷ xs) h t = elim h [
  | inl e ↦ first (test x) (list_any test xs) (ap test (sym e) ∙ t)
  | inr k ↦ second (test x) (list_any test xs) (In-any test m xs k t)
]
  where
    first : (a b : Bool) → a ≡ true → (a || b) ≡ true
    first a b e = ap (λ c. c || b) e

    second : (a b : Bool) → b ≡ true → (a || b) ≡ true
    second true b e = refl
    second false b e = e

pub record Some_of (test : Mark → Bool) (xs : List Mark) : Type 0 where
  pub mark : Mark
  pub among : In mark xs
  pub passes : test mark ≡ true

pub any-In : (test : Mark → Bool) (xs : List Mark) → list_any test xs ≡ true → Some_of test xs
any-In test [] h = absurd cc
any-In test (x ∷ xs) h = by (test x) refl (any-In test xs)
  where
    by : (b : Bool) → test x ≡ b → (list_any test xs ≡ true → Some_of test xs) → Some_of test (x ∷ xs)
    by true e rest = record { mark = x; among = inl refl; passes = e }
    by false e rest =
        let found = rest (sym (ap (λ c. c || list_any test xs) e) ∙ h) in
        record { mark = found.mark; among = inr found.among; passes = found.passes }
