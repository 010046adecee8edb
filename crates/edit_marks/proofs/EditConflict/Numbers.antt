-- The numbers of edits in a list without repeats do not change when the list grows.
use Rattle.std.proofs.Common.{◌≡◌, ◌+◌, ◌||◌, ℕ, Bool, true, false, cond, refl, sym, ap, subst, ◌∙◌, arith, List, [], ◌∷◌, ◌++◌, length}
use Rattle.std.specs.Prelude.{fold, not, map, if◌then◌else◌}
use Rattle.std.specs.List.{list_any, prefix_len}
use Rattle.edit_marks.specs.declared.edit_conflict.edit.Edit.{Edit}
use Rattle.edit_marks.specs.EditConflict.Same.{same_edit}
use Rattle.edit_marks.specs.EditConflict.SameLaws.{edit_decides}
use Rattle.edit_marks.specs.EditConflict.Once.{with_edit, number_in, once}

-- each of these edits is in the list
abbrev pub AreIn : List Edit → List Edit → Type 0
AreIn list [] = Unit {0}
AreIn list (e ∷ edits) = (list_any (same_edit e) list ≡ true) × AreIn list edits

any_first : (p : Edit → Bool) (xs ys : List Edit) → list_any p xs ≡ true → list_any p (xs ++ ys) ≡ true
any_first p [] ys e = absurd cc
any_first p (x ∷ xs) ys e = by (p x) (any_first p xs ys) e
  where
    by : (b : Bool) → (list_any p xs ≡ true → list_any p (xs ++ ys) ≡ true) → (b || list_any p xs) ≡ true → (b || list_any p (xs ++ ys)) ≡ true
    by true rest h = refl
    by false rest h = rest h

same_number : (p : Edit → Bool) (xs ys : List Edit) → list_any p xs ≡ true → prefix_len (λ x. not (p x)) (xs ++ ys) ≡ prefix_len (λ x. not (p x)) xs
same_number p [] ys e = absurd cc
same_number p (x ∷ xs) ys e = by (p x) (same_number p xs ys) e
  where
    by : (b : Bool) → (list_any p xs ≡ true → prefix_len (λ x. not (p x)) (xs ++ ys) ≡ prefix_len (λ x. not (p x)) xs) → (b || list_any p xs) ≡ true
        → cond (not b) (1 + prefix_len (λ x. not (p x)) (xs ++ ys)) 0 ≡ cond (not b) (1 + prefix_len (λ x. not (p x)) xs) 0
    by true rest h = refl
    by false rest h = ap (λ (k : ℕ). 1 + k) (rest h)

own : (e : Edit) → same_edit e e ≡ true
own e = (edit_decides e e).1 refl

module _ (list : List Edit) (e : Edit) where
  still : (b : Bool) (f : Edit) → list_any (same_edit f) list ≡ true → list_any (same_edit f) (if b then list else list ++ e ∷ []) ≡ true
  still true f h = h
  still false f h = any_first (same_edit f) list (e ∷ []) h

  same_still : (b : Bool) (f : Edit) → list_any (same_edit f) list ≡ true → number_in (if b then list else list ++ e ∷ []) f ≡ number_in list f
  same_still true f h = refl
  same_still false f h = same_number (same_edit f) list (e ∷ []) h

  last_any : (p : Edit → Bool) (xs : List Edit) → p e ≡ true → list_any p (xs ++ e ∷ []) ≡ true
  last_any p [] h = ap (λ (b : Bool). b || false) h
  last_any p (x ∷ xs) h = by (p x) (last_any p xs h)
    where
      by : (b : Bool) → list_any p (xs ++ e ∷ []) ≡ true → (b || list_any p (xs ++ e ∷ [])) ≡ true
      by true rest = refl
      by false rest = rest

  now_in : (b : Bool) → list_any (same_edit e) list ≡ b → list_any (same_edit e) (if b then list else list ++ e ∷ []) ≡ true
  now_in true h = h
  now_in false h = last_any (same_edit e) list (own e)

  last_number : (p : Edit → Bool) (xs : List Edit) → p e ≡ true → list_any p xs ≡ false
      → prefix_len (λ x. not (p x)) (xs ++ e ∷ []) ≡ prefix_len (λ x. not (p x)) xs
  last_number p [] h none = ap (λ (b : Bool). cond (not b) (1 + 0) 0) h
  last_number p (x ∷ xs) h none = by (p x) (last_number p xs h) none
    where
      by : (b : Bool) → (list_any p xs ≡ false → prefix_len (λ x. not (p x)) (xs ++ e ∷ []) ≡ prefix_len (λ x. not (p x)) xs)
          → (b || list_any p xs) ≡ false
          → cond (not b) (1 + prefix_len (λ x. not (p x)) (xs ++ e ∷ [])) 0 ≡ cond (not b) (1 + prefix_len (λ x. not (p x)) xs) 0
      by true rest k = absurd cc
      by false rest k = ap (λ (m : ℕ). 1 + m) (rest k)

  own_number : (b : Bool) → list_any (same_edit e) list ≡ b → number_in (if b then list else list ++ e ∷ []) e ≡ number_in list e
  own_number true h = refl
  own_number false h = last_number (same_edit e) list (own e) h

  still_in : (edits : List Edit) → AreIn list edits → AreIn (with_edit list e) edits
  still_in [] h = tt
  still_in (f ∷ edits) h = (still (list_any (same_edit e) list) f h.0, still_in edits h.1)

  same_numbers : (edits : List Edit) → AreIn list edits → map (number_in (with_edit list e)) edits ≡ map (number_in list) edits
  same_numbers [] h = refl
  same_numbers (f ∷ edits) h = λ i. same_still (list_any (same_edit e) list) f h.0 i ∷ same_numbers edits h.1 i

push_in : (list edits : List Edit) (e : Edit) → AreIn list edits → list_any (same_edit e) list ≡ true → AreIn list (edits ++ e ∷ [])
push_in list [] e h k = (k, tt)
push_in list (f ∷ edits) e h k = (h.0, push_in list edits e h.1 k)

mapped : {X Y : Type 0} (f : X → Y) (xs : List X) (x : X) → map f (xs ++ x ∷ []) ≡ map f xs ++ f x ∷ []
mapped f [] x = refl
mapped f (y ∷ xs) x = ap (λ l. f y ∷ l) (mapped f xs x)

-- the edits without repeats, with one more
pub once_push : (edits : List Edit) (e : Edit) → once (edits ++ e ∷ []) ≡ with_edit (once edits) e
once_push edits e = from [] edits
  where
    from : (list edits : List Edit) → fold with_edit list (edits ++ e ∷ []) ≡ with_edit (fold with_edit list edits) e
    from list [] = refl
    from list (f ∷ edits) = from (with_edit list f) edits

-- one more edit
pub more_in : (list edits : List Edit) (e : Edit) → AreIn list edits → AreIn (with_edit list e) (edits ++ e ∷ [])
more_in list edits e h = push_in (with_edit list e) edits e (still_in list e edits h) (now_in list e (list_any (same_edit e) list) refl)

pub more_numbers : (list edits : List Edit) (e : Edit) (numbers : List ℕ) → AreIn list edits → numbers ≡ map (number_in list) edits
    → numbers ++ number_in list e ∷ [] ≡ map (number_in (with_edit list e)) (edits ++ e ∷ [])
more_numbers list edits e numbers h is =
    (λ i. (is ∙ sym (same_numbers list e edits h)) i ++ sym (own_number list e (list_any (same_edit e) list) refl) i ∷ [])
    ∙ sym (mapped (number_in (with_edit list e)) edits e)
