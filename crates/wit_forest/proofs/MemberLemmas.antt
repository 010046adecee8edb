-- Members of lists that are joined.
use Rattle.std.proofs.Common.{◌≡◌, ℕ, suc, zero, ◌<◌, sym, subst, arith, List, [], ◌∷◌, ◌++◌, length, get_or, slice_get, Some, Contains}
use Rattle.std.specs.List.{flat_map}
use Rattle.ctl_fixpoint.proofs.CtlHolds.TestLemmas.{Contains-later}

left_at : {X : Type 0} (xs ys : List X) (x : X) (i : ℕ) → i < length xs → get_or xs i x ≡ x → Contains (xs ++ ys) x
left_at [] ys x i lt e = absurd (omega (arith, lt))
left_at (h ∷ t) ys x zero lt e = (zero, omega arith, e)
left_at (h ∷ t) ys x (suc i) lt e = Contains-later h x (t ++ ys) (left_at t ys x i (omega (arith, lt)) e)

pub Contains-left : {X : Type 0} (xs ys : List X) (x : X) → Contains xs x → Contains (xs ++ ys) x
Contains-left xs ys x c = left_at xs ys x c.0 c.1 c.2

pub Contains-right : {X : Type 0} (xs ys : List X) (x : X) → Contains ys x → Contains (xs ++ ys) x
Contains-right [] ys x c = c
Contains-right (h ∷ t) ys x c = Contains-later h x (t ++ ys) (Contains-right t ys x c)

flat_at : {X Y : Type 0} (f : X → List Y) (xs : List X) (x : X) (y : Y) (i : ℕ) → i < length xs → get_or xs i x ≡ x → Contains (f x) y
    → Contains (flat_map f xs) y
flat_at f [] x y i lt e c = absurd (omega (arith, lt))
flat_at f (h ∷ t) x y zero lt e c = Contains-left (f h) (flat_map f t) y (subst (λ w. Contains (f w) y) (sym e) c)
flat_at f (h ∷ t) x y (suc i) lt e c = Contains-right (f h) (flat_map f t) y (flat_at f t x y i (omega (arith, lt)) e c)

pub Contains-flat : {X Y : Type 0} (f : X → List Y) (xs : List X) (x : X) (y : Y) → Contains xs x → Contains (f x) y → Contains (flat_map f xs) y
Contains-flat f xs x y m c = flat_at f xs x y m.0 m.1 m.2 c

pub got : {X : Type 0} (l : List X) (i : ℕ) (x : X) → slice_get l i ≡ Some x → Contains l x
got [] i x e = absurd cc
got (h ∷ t) zero x e = let same : h ≡ x = cc in (zero, omega arith, same)
got (h ∷ t) (suc i) x e = let r = got t i x e in Contains-later h x t r
