-- Variables by the elements of a sequence at which they are quantified, put in one after another.
use Rattle.std.proofs.Common.{◌≡◌, ℕ, zero, suc, ◌+◌, ◌<◌, ◌≤◌, Bool, true, false, not, ◌&&◌, cond, nat_eq, refl, sym, ap, ◌∙◌, arith}
use Rattle.std.proofs.Common.{List, [], ◌∷◌, ◌++◌, length, get_or, set, take, add-one, append-nil, Option, None, Some}
use Rattle.std.specs.List.{filter}
use Rattle.std.proofs.lemmas.List.{take_more}
use Rattle.std.proofs.lemmas.List.Elements.{filter-append}
use Rattle.smpl_terms.specs.declared.var.Var.{Var}
use Rattle.smpl_patch.specs.Bodies.{Body, End, Then, body}
use Rattle.smpl_patch.specs.declared.elem.Elem.{Elem}
use Rattle.pattern_vars.specs.declared.var_places.homes.Home.{Home}
use Rattle.pattern_vars.specs.declared.var_places.place.Shares.{Shares}
use Rattle.pattern_vars.specs.VarPlaces.Homes.{is_here, is_within, shared_by, shares_from, empty_shares, put_in}
use Rattle.pattern_vars.proofs.VarPlaces.HomeLemmas.{and-false, and-true, same-number, apart, before, shares-same}

-- one more variable

kept-first : (p : Var → Bool) (w : List Var) (x : Var) → filter p (w ++ x ∷ []) ≡ filter p w ++ cond (p x) (x ∷ []) []
kept-first p w x = filter-append p w (x ∷ [])

put-more : (home : Var → Option Home) (n : ℕ) (b : Body) (w : List Var) (x : Var)
    → shares_from home n b (w ++ x ∷ []) ≡ put_in n (home x) x (shares_from home n b w)
put-more home n End w x = refl
put-more home n (Then e rest) w x =
    shares-same _ _ _ _ _ _ (kept-first (λ y. is_here (home y) n) w x) (kept-first (λ y. is_within (home y) n) w x) (put-more home (suc n) rest w x)

pub sorted-step : (home : Var → Option Home) (b : Body) (vars : List Var) (i : ℕ) (x : Var) (h : Option Home) (old new : List Shares)
    → i < length vars → x ≡ get_or vars i x → h ≡ home x → old ≡ shares_from home 0 b (take i vars) → new ≡ put_in 0 h x old
    → new ≡ shares_from home 0 b (take (i + 1) vars)
sorted-step home b vars i x h old new l q t o n =
    n ∙ ap (λ (z : Option Home). put_in 0 z x old) t ∙ ap (put_in 0 (home x) x) o ∙ sym (put-more home 0 b (take i vars) x)
    ∙ ap (shares_from home 0 b) (ap (λ (z : Var). take i vars ++ z ∷ []) q ∙ sym (take_more vars i x l))

pub sorted-none : (home : Var → Option Home) (n : ℕ) (es : List Elem) → shares_from home n (body es) [] ≡ empty_shares (length es)
sorted-none home n [] = refl
sorted-none home n (e ∷ es) = ap (λ (z : List Shares). let s : Shares = record { here = []; inside = [] } in s ∷ z) (sorted-none home (suc n) es)

empty-more : (n : ℕ) → empty_shares n ++ (let s : Shares = record { here = []; inside = [] } in s ∷ []) ≡ empty_shares (suc n)
empty-more zero = refl
empty-more (suc n) = ap (λ (z : List Shares). let s : Shares = record { here = []; inside = [] } in s ∷ z) (empty-more n)

-- one more of the empty shares
pub empty-step : (n : ℕ) (a b : List Var) (old new : List Shares) → a ≡ [] → b ≡ [] → old ≡ empty_shares n
    → new ≡ old ++ (let s : Shares = record { here = a; inside = b } in s ∷ []) → new ≡ empty_shares (n + 1)
empty-step n a b old new p q o w =
    w ∙ ap (λ (z : List Var). old ++ (let s : Shares = record { here = z; inside = b } in s ∷ [])) p
    ∙ ap (λ (z : List Var). old ++ (let s : Shares = record { here = []; inside = z } in s ∷ [])) q
    ∙ ap (λ (z : List Shares). z ++ (let s : Shares = record { here = []; inside = [] } in s ∷ [])) o
    ∙ empty-more n ∙ ap empty_shares (sym (add-one n))

-- a variable that isn't quantified at the element

shared-none : (a b : Bool) (x : Var) (s : Shares) → a ≡ false → b ≡ false → s ≡ shared_by a b x s
shared-none a b x s p q =
    let h : s.here ≡ s.here ++ cond a (x ∷ []) [] = sym (append-nil s.here) ∙ ap (λ (z : Bool). s.here ++ cond z (x ∷ []) []) (sym p) in
    let i : s.inside ≡ s.inside ++ cond b (x ∷ []) [] = sym (append-nil s.inside) ∙ ap (λ (z : Bool). s.inside ++ cond z (x ∷ []) []) (sym q) in
    ap (λ (z : List Var). let t : Shares = record { here = z; inside = s.inside } in t) h
    ∙ ap (λ (z : List Var). let t : Shares = record { here = s.here ++ cond a (x ∷ []) []; inside = z } in t) i

cons-same : (s t : Shares) (ss ts : List Shares) → s ≡ t → ss ≡ ts → s ∷ ss ≡ t ∷ ts
cons-same s t ss ts p q = cc

pub put-nothing : (n : ℕ) (x : Var) (ss : List Shares) → ss ≡ put_in n None x ss
put-nothing n x [] = refl
put-nothing n x (s ∷ ss) = cons-same _ _ _ _ (shared-none false false x s refl refl) (put-nothing (suc n) x ss)

skip : (h : Home) (x : Var) (s : Shares) (n : ℕ) → nat_eq h.place n ≡ false → s ≡ shared_by (is_here (Some h) n) (is_within (Some h) n) x s
skip h x s n q =
    shared-none (h.here && nat_eq h.place n) (not h.here && nat_eq h.place n) x s (and-false h.here (nat_eq h.place n) q)
    (and-false (not h.here) (nat_eq h.place n) q)

pub put-beyond : (h : Home) (x : Var) (ss : List Shares) (n : ℕ) → n + length ss ≤ h.place → ss ≡ put_in n (Some h) x ss
put-beyond h x [] n l = refl
put-beyond h x (s ∷ ss) n l =
    cons-same _ _ _ _ (skip h x s n (apart h.place n (omega (arith, l)))) (put-beyond h x ss (suc n) (omega (arith, l)))

put-past : (h : Home) (x : Var) (ss : List Shares) (n : ℕ) → h.place < n → ss ≡ put_in n (Some h) x ss
put-past h x [] n l = refl
put-past h x (s ∷ ss) n l = cons-same _ _ _ _ (skip h x s n (before h.place n l)) (put-past h x ss (suc n) (omega (arith, l)))

put-from : (h : Home) (x : Var) (ss : List Shares) (n k : ℕ) (d : Shares) → h.place ≡ n + k → k < length ss
    → set ss k (shared_by h.here (not h.here) x (get_or ss k d)) ≡ put_in n (Some h) x ss
put-from h x [] n k d q l = absurd (omega (arith, l))
put-from h x (s ∷ ss) n zero d q l =
    let e : nat_eq h.place n ≡ true = ap (λ (z : ℕ). nat_eq z n) (let e : h.place ≡ n = omega (arith, q) in e) ∙ same-number n in
    cons-same _ _ _ _
    (ap (λ (z : Bool). shared_by z (not h.here) x s) (sym (and-true h.here (nat_eq h.place n) e))
    ∙ ap (λ (z : Bool). shared_by (h.here && nat_eq h.place n) z x s) (sym (and-true (not h.here) (nat_eq h.place n) e)))
    (put-past h x ss (suc n) (omega (arith, q)))
put-from h x (s ∷ ss) n (suc k) d q l =
    cons-same _ _ _ _ (skip h x s n (apart h.place n (omega (arith, q)))) (put-from h x ss (suc n) k d (omega (arith, q)) (omega (arith, l)))

-- the variable is put where it is quantified
pub put-at : (h : Home) (x : Var) (ss new : List Shares) (d was share : Shares) → h.place < length ss → was ≡ get_or ss h.place d
    → share ≡ shared_by h.here (not h.here) x was → new ≡ set ss h.place share → new ≡ put_in 0 (Some h) x ss
put-at h x ss new d was share l w s n =
    n ∙ ap (set ss h.place) (s ∙ ap (shared_by h.here (not h.here) x) w) ∙ put-from h x ss 0 h.place d (omega arith) l
