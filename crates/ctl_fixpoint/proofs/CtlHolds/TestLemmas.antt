-- Tests of lists.
use Rattle.std.proofs.Common.{◌≡◌, ℕ, suc, zero, ◌<◌, Bool, true, false, ◌&&◌, ◌||◌, not, refl, sym, ap, ◌∙◌, arith}
use Rattle.std.proofs.Common.{List, [], ◌∷◌, length, get_or, map, ◌⊎◌, inl, inr, ⊎_elim, Contains}
use Rattle.std.specs.List.{list_any, list_all}

pub or_cases : (a b : Bool) → (a || b) ≡ true → (a ≡ true) ⊎ (b ≡ true)
or_cases true b h = inl refl
or_cases false b h = inr h

pub or_left : (a b : Bool) → a ≡ true → (a || b) ≡ true
or_left true b h = refl
or_left false b h = absurd (cc)

pub or_right : (a b : Bool) → b ≡ true → (a || b) ≡ true
or_right true b h = refl
or_right false b h = h

pub and_left : (a b : Bool) → (a && b) ≡ true → a ≡ true
and_left true b h = refl
and_left false b h = absurd (cc)

pub and_right : (a b : Bool) → (a && b) ≡ true → b ≡ true
and_right true b h = h
and_right false b h = absurd (cc)

pub and_both : (a b : Bool) → a ≡ true → b ≡ true → (a && b) ≡ true
and_both true b h k = k
and_both false b h k = absurd (cc)

pub or_false : (a b : Bool) → (a || b) ≡ false → (a ≡ false) × (b ≡ false)
or_false true b h = absurd (cc)
or_false false b h = (refl, h)

pub and_false : (a b : Bool) → (a && b) ≡ false → (a ≡ false) ⊎ (b ≡ false)
and_false true b h = inr h
and_false false b h = inl refl

pub true_or_false : (b : Bool) → (b ≡ true) ⊎ (b ≡ false)
true_or_false true = inl refl
true_or_false false = inr refl

pub not_both : {A : Type 0} (b : Bool) → b ≡ true → b ≡ false → A
not_both b h k = absurd (cc)

pub not_true : (b : Bool) → not b ≡ true → b ≡ false
not_true true h = absurd (cc)
not_true false h = refl

pub not_false : (b : Bool) → not b ≡ false → b ≡ true
not_false true h = refl
not_false false h = absurd (cc)

pub same_bool : {a b : Bool} → (a ≡ true → b ≡ true) → (b ≡ true → a ≡ true) → a ≡ b
same_bool {a} {b} f g = ⊎_elim
    (λ h. h ∙ sym (f h))
    (λ h. ⊎_elim (λ k. not_both a (g k) h) (λ k. h ∙ sym k) (true_or_false b))
    (true_or_false a)

pub Contains-first : {X : Type 0} (x : X) (l : List X) → Contains (x ∷ l) x
Contains-first x l = (zero, omega arith, refl)

pub Contains-later : {X : Type 0} (y x : X) (l : List X) → Contains l x → Contains (y ∷ l) x
Contains-later y x l c = (suc c.0, omega (arith, c.1), c.2)

pub Contains-map : {X Y : Type 0} (f : X → Y) (x : X) (l : List X) (i : ℕ) → i < length l → get_or l i x ≡ x
    → Contains (map f l) (f x)
Contains-map f x [] i lt e = absurd (omega (arith, lt))
Contains-map f x (y ∷ l) zero lt e = (zero, omega arith, ap f e)
Contains-map f x (y ∷ l) (suc i) lt e = Contains-later (f y) (f x) (map f l) (Contains-map f x l i (omega (arith, lt)) e)

pub any_found : {X : Type 0} (x : X → Bool) (l : List X) → list_any x l ≡ true → (k : X) × Contains l k × (x k ≡ true)
any_found x [] h = absurd (cc)
any_found x (n ∷ l) h = ⊎_elim
    (λ here. (n, Contains-first n l, here))
    (λ there. let r = any_found x l there in (r.0, Contains-later n r.0 l r.1, r.2))
    (or_cases (x n) (list_any x l) h)

pub any_at : {X : Type 0} (x : X → Bool) (k : X) (l : List X) (i : ℕ) → i < length l → get_or l i k ≡ k → x k ≡ true
    → list_any x l ≡ true
any_at x k [] i lt e h = absurd (omega (arith, lt))
any_at x k (n ∷ l) zero lt e h = or_left (x n) (list_any x l) (ap x e ∙ h)
any_at x k (n ∷ l) (suc i) lt e h = or_right (x n) (list_any x l) (any_at x k l i (omega (arith, lt)) e h)

pub all_at : {X : Type 0} (x : X → Bool) (k : X) (l : List X) (i : ℕ) → i < length l → get_or l i k ≡ k
    → list_all x l ≡ true → x k ≡ true
all_at x k [] i lt e h = absurd (omega (arith, lt))
all_at x k (n ∷ l) zero lt e h = ap x (sym e) ∙ and_left (x n) (list_all x l) h
all_at x k (n ∷ l) (suc i) lt e h = all_at x k l i (omega (arith, lt)) e (and_right (x n) (list_all x l) h)

pub any_has : {X : Type 0} (x : X → Bool) (k : X) (l : List X) → Contains l k → x k ≡ true → list_any x l ≡ true
any_has x k l c h = any_at x k l c.0 c.1 c.2 h

pub all_has : {X : Type 0} (x : X → Bool) (k : X) (l : List X) → Contains l k → list_all x l ≡ true → x k ≡ true
all_has x k l c h = all_at x k l c.0 c.1 c.2 h

pub all_lacks : {X : Type 0} (x : X → Bool) (l : List X) → list_all x l ≡ false → (k : X) × Contains l k × (x k ≡ false)
all_lacks x [] h = absurd (cc)
all_lacks x (n ∷ l) h = ⊎_elim
    (λ here. (n, Contains-first n l, here))
    (λ there. let r = all_lacks x l there in (r.0, Contains-later n r.0 l r.1, r.2))
    (and_false (x n) (list_all x l) h)

pub any_lacks : {X : Type 0} (x : X → Bool) (k : X) (l : List X) → Contains l k → list_any x l ≡ false → x k ≡ false
any_lacks x k l c h = ⊎_elim (λ t. not_both _ (any_has x k l c t) h) (λ f. f) (true_or_false (x k))

-- a weaker test
pub any_weaker : {X : Type 0} (x y : X → Bool) (l : List X) → ((k : X) → Contains l k → x k ≡ true → y k ≡ true)
    → list_any x l ≡ true → list_any y l ≡ true
any_weaker x y l w h = let r = any_found x l h in any_has y r.0 l r.1 (w r.0 r.1 r.2)

pub all_weaker : {X : Type 0} (x y : X → Bool) (l : List X) → ((k : X) → Contains l k → x k ≡ true → y k ≡ true)
    → list_all x l ≡ true → list_all y l ≡ true
all_weaker x y [] w h = refl
all_weaker x y (n ∷ l) w h = and_both (y n) (list_all y l)
    (w n (Contains-first n l) (and_left (x n) (list_all x l) h))
    (all_weaker x y l (λ k c. w k (Contains-later n k l c)) (and_right (x n) (list_all x l) h))

-- two tests that agree at the members
pub any_members : {X : Type 0} (x y : X → Bool) (l : List X) → ((k : X) → Contains l k → x k ≡ y k)
    → list_any x l ≡ list_any y l
any_members x y [] h = refl
any_members x y (n ∷ l) h =
    let e = h n (Contains-first n l) in
    let r = any_members x y l (λ k c. h k (Contains-later n k l c)) in
    cc

pub all_members : {X : Type 0} (x y : X → Bool) (l : List X) → ((k : X) → Contains l k → x k ≡ y k)
    → list_all x l ≡ list_all y l
all_members x y [] h = refl
all_members x y (n ∷ l) h =
    let e = h n (Contains-first n l) in
    let r = all_members x y l (λ k c. h k (Contains-later n k l c)) in
    cc
