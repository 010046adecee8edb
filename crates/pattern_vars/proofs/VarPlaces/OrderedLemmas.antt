-- Places at which a list has variables, and the variables at them.
use Rattle.std.proofs.Common.{◌≡◌, ℕ, zero, suc, ◌+◌, ◌<◌, ◌≤◌, Bool, true, false, true≢false, ◌||◌, cond, nat_eq, List, []}
use Rattle.std.proofs.Common.{◌∷◌, ◌++◌, length, get_or, take, drop, refl, sym, ap, subst, ◌∙◌, arith, Option, None, Some}
use Rattle.std.proofs.Common.{slice_get}
use Rattle.std.specs.List.{filter, list_any, All}
use Rattle.std.specs.List.Sorted.{IsNonDecreasing, IsPermutation}
use Rattle.std.proofs.lemmas.List.Sorted.{list_any-IsPermutation}
use Rattle.std.proofs.Math.Seq.{take-length, drop-length}
use Rattle.std.proofs.lemmas.List.{drop_more, take_more, get_or-drop, length-drop, get_or_default}
use Rattle.std.proofs.lemmas.List.Elements.{filter-append}
use Rattle.std.proofs.lemmas.List.Folds.{list_any_none, list_any_at}
use Rattle.std.proofs.lemmas.List.Quantifiers.{position-Some}
use Rattle.std.proofs.lemmas.Bool.{eq-eqb, eqb-true}
use Rattle.std.proofs.lemmas.Option.{slice_get-get_or, slice_get_within}
use Rattle.smpl_terms.specs.declared.var.Var.{Var}
use Rattle.smpl_terms.specs.Vars.{same_var}
use Rattle.smpl_terms.proofs.VarLaws.{same_var-equal, same_var-refl}
use Rattle.pattern_vars.specs.Reads.{has, number_of, is_number}
use Rattle.pattern_vars.specs.VarPlaces.Ordered.{has_number, passes, IsNumbered, ArePlaces}

apart : (j i : ℕ) → (j ≡ i → ⊥) → nat_eq j i ≡ false
apart j i h = by (nat_eq j i) refl
  where
    by : (b : Bool) → nat_eq j i ≡ b → b ≡ false
    by true e = absurd (h (eqb-true j i e))
    by false e = refl

any-same : {X : Type 0} (f g : X → Bool) → ((x : X) → f x ≡ g x) → (xs : List X) → list_any f xs ≡ list_any g xs
any-same f g h [] = refl
any-same f g h (x ∷ xs) = ap (λ (b : Bool). b || list_any f xs) (h x) ∙ ap (λ (b : Bool). g x || b) (any-same f g h xs)

any-none : {X : Type 0} (f : X → Bool) → ((x : X) → f x ≡ false) → (xs : List X) → list_any f xs ≡ false
any-none f h [] = refl
any-none f h (x ∷ xs) = ap (λ (b : Bool). b || list_any f xs) (h x) ∙ any-none f h xs

-- the number is known
number-is : (o : Option ℕ) (i : ℕ) → is_number o i ≡ true → o ≡ Some i
number-is None i h = absurd (true≢false (sym h))
number-is (Some n) i h = ap Some (eqb-true n i h)

past_end : {X : Type 0} (xs : List X) (i : ℕ) → slice_get xs i ≡ None → length xs ≤ i
past_end [] i h = omega arith
past_end (x ∷ xs) zero h = absurd cc
past_end (x ∷ xs) (suc i) h = omega (arith, past_end xs i h)

-- a number is that of one variable
one-number : (numbers : List Var) (x y : Var) (i : ℕ) → number_of numbers x ≡ Some i → number_of numbers y ≡ Some i → y ≡ x
one-number numbers x y i h k =
    let z = get_or numbers i x in
    sym (same_var-equal z y (position-Some (λ v. same_var v y) numbers i x k).1)
    ∙ same_var-equal z x (position-Some (λ v. same_var v x) numbers i x h).1

module _ (numbers vars : List Var) (h : IsNumbered numbers vars) where
  -- another variable has another number
  numbered-same : (x y : Var) (i : ℕ) → has_number numbers i x ≡ true → has_number numbers i y ≡ same_var y x
  numbered-same x y i e = by (same_var y x) refl
    where
      other : (b : Bool) → has_number numbers i y ≡ b → same_var y x ≡ false → b ≡ false
      other false k f = refl
      other true k f =
          let s = one-number numbers x y i (number-is (number_of numbers x) i e) (number-is (number_of numbers y) i k) in
          absurd (true≢false (sym (same_var-refl x) ∙ ap (λ (v : Var). same_var v x) (sym s) ∙ f))

      by : (b : Bool) → same_var y x ≡ b → has_number numbers i y ≡ b
      by true t = ap (has_number numbers i) (same_var-equal y x t) ∙ e
      by false f = other (has_number numbers i y) refl f

  numbered-none : (y : Var) (i : ℕ) → length vars ≤ i → has_number numbers i y ≡ false
  numbered-none y i l = by (has_number numbers i y) refl
    where
      by : (b : Bool) → has_number numbers i y ≡ b → b ≡ false
      by false k = refl
      by true k =
          let w = (position-Some (λ v. same_var v y) numbers i y (number-is (number_of numbers y) i k)).0 in
          absurd (omega (arith, h.count, w, l))

  -- the numbers of a set's variables are their places
  numbers-places : (set : List Var) (i : ℕ) → list_any (has_number numbers i) set ≡ passes (has set) (slice_get vars i)
  numbers-places set i = by (slice_get vars i) refl
    where
      by : (o : Option Var) → slice_get vars i ≡ o → list_any (has_number numbers i) set ≡ passes (has set) o
      by None e = any-none (has_number numbers i) (λ x. numbered-none x i (past_end vars i e)) set
      by (Some x) e =
          any-same (has_number numbers i) (λ (y : Var). same_var y x) (λ y. numbered-same x y i (h.each i x e)) set

  -- and sorted as well
  pub sorted-places : (set : List Var) (found sorted places : List ℕ)
      → ((i : ℕ) → list_any (nat_eq i) found ≡ list_any (has_number numbers i) set) → IsPermutation found sorted
      → places ≡ sorted → ArePlaces (has set) vars places
  sorted-places set found sorted places f p e i =
      ap (list_any (nat_eq i)) e ∙ sym (list_any-IsPermutation (nat_eq i) found sorted p) ∙ f i ∙ numbers-places set i

-- if no variable from n on before i passes, as many are kept
skip : (test : Var → Bool) (xs : List Var) (n i : ℕ) → n ≤ i → i ≤ length xs
    → ((j : ℕ) → n ≤ j → j < i → passes test (slice_get xs j) ≡ false) → filter test (take i xs) ≡ filter test (take n xs)
skip test xs zero zero l m h = refl
skip test [] zero (suc i) l m h = absurd (omega arith)
skip test (x ∷ xs) zero (suc i) l m h =
    ap (λ (b : Bool). cond b (x ∷ filter test (take i xs)) (filter test (take i xs))) (h 0 (omega arith) (omega arith))
    ∙ skip test xs zero i (omega arith) (omega arith) (λ j a b. h (suc j) (omega arith) (omega arith))
skip test xs (suc n) zero l m h = absurd (omega arith)
skip test [] (suc n) (suc i) l m h = absurd (omega arith)
skip test (x ∷ xs) (suc n) (suc i) l m h =
    ap (λ ys. cond (test x) (x ∷ ys) ys)
    (skip test xs n i (omega arith) (omega arith) (λ j a b. h (suc j) (omega arith) (omega arith)))

-- the variables at the places so far, if those that are left are at `next` or after it
pub record IsSoFar (vars : List Var) (places : List ℕ) (k next : ℕ) (found : List Var) : Type 0 where
  pub within : next ≤ length vars
  pub rest : (j : ℕ) → next ≤ j → list_any (nat_eq j) places ≡ list_any (nat_eq j) (drop k places)
  pub kept : (test : Var → Bool) → ArePlaces test vars places → found ≡ filter test (take next vars)

pub so_far-is : (vars : List Var) (places : List ℕ) (k next there : ℕ) (found all : List Var)
    → next ≡ there → found ≡ all → IsSoFar vars places k there all → IsSoFar vars places k next found
so_far-is vars places k next there found all e f s =
    subst (λ z. IsSoFar vars places k z found) (sym e) (subst (λ zs. IsSoFar vars places k there zs) (sym f) s)

module _ (vars : List Var) (places : List ℕ) (rising : IsNonDecreasing places) where
  -- what is before a place isn't among the places that are left
  none-before : (k i j : ℕ) → k < length places → i ≡ get_or places k 0 → j < i
      → list_any (nat_eq j) (drop k places) ≡ false
  none-before k i j l e b =
      list_any_none (nat_eq j) (drop k places) (λ m d w.
      let up : get_or places k d ≤ get_or places (k + m) d =
      rising k (k + m) d (omega arith) (omega (arith, length-drop k places)) in
      apart j (get_or (drop k places) m d) (λ q. omega (arith, q, get_or-drop k places m d, up, first k d l ∙ sym e)))
    where
      first : (k d : ℕ) → k < length places → get_or places k d ≡ get_or places k 0
      first k d l = get_or_default places k d 0 l

  left : (k i j : ℕ) → k < length places → i ≡ get_or places k 0 → i < j
      → list_any (nat_eq j) (drop k places) ≡ list_any (nat_eq j) (drop (k + 1) places)
  left k i j l e b =
      ap (list_any (nat_eq j)) (drop_more places k 0 l)
      ∙ ap (λ (c : Bool). c || list_any (nat_eq j) (drop (k + 1) places))
      (apart j (get_or places k 0) (λ q. omega (arith, q, e, b)))

  -- a place that isn't new
  pub so_far-again : (k i next : ℕ) (found : List Var) → k < length places → i ≡ get_or places k 0 → i < next
      → IsSoFar vars places k next found → IsSoFar vars places (k + 1) next found
  so_far-again k i next found l e b s = record {
    within = s.within;
    rest = λ j n. s.rest j n ∙ left k i j l e (omega arith);
    kept = s.kept;
  }

  -- a new place
  pub so_far-more : (k i next : ℕ) (found : List Var) (x : Var) → k < length places → i ≡ get_or places k 0
      → next ≤ i → i < length vars → x ≡ get_or vars i x → IsSoFar vars places k next found → IsSoFar vars places (k + 1) (i + 1) (found ++ x ∷ [])
  so_far-more k i next found x l e b w q s = record {
    within = omega arith;
    rest = λ j n. s.rest j (omega arith) ∙ left k i j l e (omega arith);
    kept = λ test are.
        let here : test x ≡ true =
        ap (passes test) (ap Some q ∙ sym (slice_get-get_or vars i x w)) ∙ sym (are i)
        ∙ list_any_at (nat_eq i) places k 0 l (eq-eqb i (get_or places k 0) e) in
        let between = skip test vars next i b (omega arith) (λ j n m. sym (are j) ∙ s.rest j n ∙ none-before k i j l e m) in
        ap (λ (vs : List Var). vs ++ x ∷ []) (s.kept test are ∙ sym between)
        ∙ ap (λ (c : Bool). filter test (take i vars) ++ cond c (x ∷ []) []) (sym here)
        ∙ sym (ap (filter test) (take_more vars i x w ∙ ap (λ (v : Var). take i vars ++ v ∷ []) (sym q))
        ∙ filter-append test (take i vars) (x ∷ []));
  }

-- each place has a variable
pub places-within : (test : Var → Bool) (vars : List Var) (places : List ℕ) → ArePlaces test vars places
    → All (λ i. i < length vars) places
places-within test vars places are k d l =
    by (slice_get vars i) refl (sym (are i) ∙ list_any_at (nat_eq i) places k d l (eq-eqb i i refl))
  where
    i : ℕ
    i = get_or places k d

    by : (o : Option Var) → slice_get vars i ≡ o → passes test o ≡ true → i < length vars
    by None e h = absurd (true≢false (sym h))
    by (Some x) e h = slice_get_within vars i x e

-- all places
pub so_far-end : (vars : List Var) (places : List ℕ) (k next : ℕ) (found : List Var) → k ≡ length places
    → IsSoFar vars places k next found → (test : Var → Bool) → ArePlaces test vars places → found ≡ filter test vars
so_far-end vars places k next found e s test are =
    s.kept test are
    ∙ sym (skip test vars next (length vars) s.within (omega arith) (λ j n m.
    sym (are j) ∙ s.rest j n ∙ ap (list_any (nat_eq j)) (ap (λ z. drop z places) e ∙ drop-length places)))
    ∙ ap (filter test) (take-length vars)
