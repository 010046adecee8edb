-- Parts of lists, and numbers below a bound.
use Rattle.std.proofs.Common.{◌≡◌, ℕ, suc, zero, ◌+◌, ◌-◌, ◌<◌, ◌≤◌, Bool, true, false, ◌&&◌, ◌||◌, nat_eq, nat_lt, nat_le}
use Rattle.std.proofs.Common.{refl, sym, ap, ◌∙◌, arith, List, [], ◌∷◌, map, length, take, drop, get_or, drop-cons, length-drop}
use Rattle.std.proofs.lemmas.Bool.Decides.{nat_tests}
use Rattle.std.proofs.lemmas.Grind.{common_steps}
use Rattle.std.specs.List.{list_all}
use Rattle.c_terms.specs.declared.tree.Tree.{Tree}
use Rattle.c_terms.specs.Lists.{comma}
use Rattle.pat_match.specs.Runs.{some_below}
use Rattle.pat_match.specs.Rows.{comma_before, last_at}

-- lists

pub comma_before_at : (ts : List Tree) (i k : ℕ) (x : Tree) → i ≡ suc k → k < length ts → x ≡ get_or ts k x → comma_before ts i ≡ comma x
comma_before_at ts zero k x e lt g = absurd (omega arith)
comma_before_at [] (suc i) k x e lt g = absurd (omega arith)
comma_before_at (t ∷ ts) (suc zero) zero x e lt g = ap comma (sym g)
comma_before_at (t ∷ ts) (suc zero) (suc k) x e lt g = absurd (omega arith)
comma_before_at (t ∷ ts) (suc (suc i)) zero x e lt g = absurd (omega arith)
comma_before_at (t ∷ ts) (suc (suc i)) (suc k) x e lt g = comma_before_at ts (suc i) k x (omega arith) (omega arith) g

pub drop_at : {X : Type 0} (xs : List X) (i : ℕ) (x : X) → i < length xs → x ≡ get_or xs i x → drop i xs ≡ x ∷ drop (suc i) xs
drop_at xs i x lt e = drop-cons xs i x lt ∙ ap (λ y. y ∷ drop (suc i) xs) (sym e)

abbrev the_nil : (X : Type 0) → List X
the_nil X = []

drop_nil : (X : Type 0) (n : ℕ) → drop n (the_nil X) ≡ the_nil X
drop_nil X zero = refl
drop_nil X (suc n) = refl

pub drop_more : {X : Type 0} (xs : List X) (j k : ℕ) → drop k (drop j xs) ≡ drop (j + k) xs
drop_more xs zero k = let e : k ≡ 0 + k = omega arith in ap (λ n. drop n xs) e
drop_more {X = X} [] (suc j) k = drop_nil X k ∙ sym (drop_nil X (suc j + k))
drop_more (x ∷ xs) (suc j) k = let e : suc (j + k) ≡ suc j + k = omega arith in drop_more xs j k ∙ ap (λ n. drop n (x ∷ xs)) e

take_whole : {X : Type 0} (xs : List X) → take (length xs) xs ≡ xs
take_whole [] = refl
take_whole (x ∷ xs) = ap (λ ys. x ∷ ys) (take_whole xs)

pub tail_slice : {X : Type 0} (xs : List X) (j : ℕ) → take (length xs - j) (drop j xs) ≡ drop j xs
tail_slice xs j = ap (λ n. take n (drop j xs)) (sym (length-drop j xs)) ∙ take_whole (drop j xs)

pub take_all : {X : Type 0} (xs : List X) (n : ℕ) → length xs ≤ n → take n xs ≡ xs
take_all [] zero le = refl
take_all [] (suc n) le = refl
take_all (x ∷ xs) zero le = absurd (omega arith)
take_all (x ∷ xs) (suc n) le = ap (λ ys. x ∷ ys) (take_all xs n (omega arith))

pub drop_past : {X : Type 0} (xs : List X) (n : ℕ) → length xs ≤ n → drop n xs ≡ []
drop_past [] zero le = refl
drop_past [] (suc n) le = refl
drop_past (x ∷ xs) zero le = absurd (omega arith)
drop_past (x ∷ xs) (suc n) le = drop_past xs n (omega arith)

pub both_false : (a b : Bool) → b ≡ false → (a && b) ≡ false
both_false true b e = e
both_false false b e = refl

-- what holds of all holds of the first ones

pub take_passes : {X : Type 0} (p : X → Bool) (xs : List X) (n : ℕ) → list_all p xs ≡ true → list_all p (take n xs) ≡ true
take_passes p [] zero h = refl
take_passes p [] (suc n) h = refl
take_passes p (x ∷ xs) zero h = refl
take_passes p (x ∷ xs) (suc n) h = by (p x) (take_passes p xs n) h
  where
    by : (b : Bool) → (list_all p xs ≡ true → list_all p (take n xs) ≡ true) → (b && list_all p xs) ≡ true → (b && list_all p (take n xs)) ≡ true
    by true r h = r h
    by false r h = h

pub take_fails : {X : Type 0} (p : X → Bool) (xs : List X) (n : ℕ) → list_all p (take n xs) ≡ false → list_all p xs ≡ false
take_fails p [] zero h = h
take_fails p [] (suc n) h = h
take_fails p (x ∷ xs) zero h = absurd (cc)
take_fails p (x ∷ xs) (suc n) h = by (p x) (take_fails p xs n) h
  where
    by : (b : Bool) → (list_all p (take n xs) ≡ false → list_all p xs ≡ false) → (b && list_all p (take n xs)) ≡ false → (b && list_all p xs) ≡ false
    by true r h = r h
    by false r h = refl

pub map_same : {X : Type 0} (xs : List X) → map (λ x. x) xs ≡ xs
map_same [] = refl
map_same (x ∷ xs) = ap (λ ys. x ∷ ys) (map_same xs)

pub bare_and : (b r a : Bool) → r ≡ b → r ≡ true → a ≡ (b && a)
bare_and true r a e t = refl
bare_and false r a e t = absurd (cc)

pub last_bare : (b : Bool) (n m : ℕ) → b ≡ false → last_at b n m ≡ false
last_bare b n m e = ap (λ b. b && nat_eq n m) e

pub last_uneven : (b : Bool) (n m : ℕ) → (m ≡ n → ⊥) → last_at b n m ≡ false
last_uneven b n m ne = let e : nat_eq n m ≡ false = grind (arith, nat_tests) in grind (arith, common_steps)

-- for some number below n

pub some_below-agree : (f g : ℕ → Bool) (n : ℕ) → ((k : ℕ) → k < n → f k ≡ g k) → some_below f n ≡ some_below g n
some_below-agree f g zero h = refl
some_below-agree f g (suc n) h = let a = some_below-agree f g n (λ k lt. h k (omega arith)) in let b = h n (omega arith) in cc

pub none_below : (f : ℕ → Bool) (n : ℕ) → ((k : ℕ) → k < n → f k ≡ false) → some_below f n ≡ false
none_below f zero h = refl
none_below f (suc n) h =
    let a = none_below f n (λ k lt. h k (omega arith)) in let b = h n (omega arith) in grind (arith, common_steps)

pub either_below : (f x y : ℕ → Bool) (n : ℕ) → some_below (λ k. f k && (x k || y k)) n ≡ (some_below (λ k. f k && x k) n || some_below (λ k. f k && y k) n)
either_below f x y zero = refl
either_below f x y (suc n) = let h = either_below f x y n in grind (arith, common_steps)

-- only the number 1 passes
pub one_below : (f : ℕ → Bool) (n : ℕ) → 1 < n → ((k : ℕ) → k < n → (k ≡ 1 → ⊥) → f k ≡ false) → some_below f n ≡ f 1
one_below f zero lt h = absurd (omega arith)
one_below f (suc zero) lt h = absurd (omega arith)
one_below f (suc (suc zero)) lt h = let a = h 0 (omega arith) (λ e. omega (arith, e)) in grind (arith, common_steps)
one_below f (suc (suc (suc n))) lt h =
    let r = one_below f (suc (suc n)) (omega arith) (λ k less ne. h k (omega arith) ne) in
    let a = h (suc (suc n)) (omega arith) (λ e. omega (arith, e)) in grind (arith, common_steps)

at_most_empty : (T : Bool) (d lt le : Bool) → lt ≡ false → false ≡ (le && (lt && (T && d)))
at_most_empty T d lt le e = grind (arith, common_steps)

pick_here : (T d R le lt : Bool) (b c : Bool) → b ≡ true → R ≡ false → le ≡ true → lt ≡ true → c ≡ T → (R || (T && (b && d))) ≡ (le && (lt && (c && d)))
pick_here T d R le lt b c e f g h k = grind (arith, common_steps)

pick_other : (T d R b w : Bool) → b ≡ false → R ≡ w → (R || (T && (b && d))) ≡ w
pick_other T d R b w e f = grind (arith, common_steps)

-- a number that must be n + k picks one k
pub pick_one : (T : ℕ → Bool) (d : Bool) (a n m : ℕ)
    → some_below (λ k. T k && (nat_eq a (n + k) && d)) m ≡ (nat_le n a && (nat_lt a (n + m) && (T (a - n) && d)))
pick_one T d a n zero = by (nat_lt a (n + 0)) (nat_le n a) refl refl
  where
    by : (lt le : Bool) → nat_lt a (n + 0) ≡ lt → nat_le n a ≡ le → false ≡ (nat_le n a && (nat_lt a (n + 0) && (T (a - n) && d)))
    by lt le e f = grind (arith, nat_tests, common_steps)
pick_one T d a n (suc m) = by (nat_eq a (n + m)) refl (pick_one T d a n m)
  where
    by : (b : Bool) → nat_eq a (n + m) ≡ b → some_below (λ k. T k && (nat_eq a (n + k) && d)) m ≡ (nat_le n a && (nat_lt a (n + m) && (T (a - n) && d)))
        → (some_below (λ k. T k && (nat_eq a (n + k) && d)) m || (T m && (nat_eq a (n + m) && d))) ≡ (nat_le n a && (nat_lt a (n + suc m) && (T (a - n) && d)))
    by true e h =
        let s : a ≡ n + m = grind (arith, nat_tests) in
        let k : a - n ≡ m = omega (arith, s) in
        let r : nat_lt a (n + m) ≡ false = grind (arith, nat_tests) in
        let le : nat_le n a ≡ true = grind (arith, nat_tests) in
        let lt : nat_lt a (n + suc m) ≡ true = grind (arith, nat_tests) in
        pick_here (T m) d _ _ _ _ _ e (h ∙ sym (at_most_empty (T (a - n)) d _ (nat_le n a) r)) le lt (ap T k)
    by false e h =
        let same : nat_lt a (n + m) ≡ nat_lt a (n + suc m) = grind (arith, nat_tests, common_steps) in
        pick_other (T m) d _ _ _ e (h ∙ ap (λ b. nat_le n a && (b && (T (a - n) && d))) same)
