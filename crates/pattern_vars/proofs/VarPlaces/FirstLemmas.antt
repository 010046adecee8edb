-- The first places of variables say which of them a front has.
use Rattle.std.proofs.Common.{◌≡◌, ℕ, zero, suc, ◌+◌, ◌<◌, ◌≤◌, Bool, true, false, ◌||◌, cond, refl, sym, ap, ◌∙◌, arith}
use Rattle.std.proofs.Common.{List, [], ◌∷◌, ◌++◌, take, Option, None, Some}
use Rattle.std.specs.Prelude.{nat_lt}
use Rattle.std.specs.List.{list_any, position_from}
use Rattle.std.proofs.lemmas.List.Folds.{list_any-append}
use Rattle.smpl_terms.specs.declared.var.Var.{Var}
use Rattle.smpl_terms.specs.Vars.{same_var}
use Rattle.pattern_vars.specs.Reads.{has}
use Rattle.pattern_vars.specs.VarPlaces.Scopes.{joined}

-- whether there is a place, and it is below n
abbrev pub is_before : ℕ → Option ℕ → Bool
is_before n None = false
is_before n (Some k) = nat_lt k n

not-below : (k n : ℕ) → n ≤ k → nat_lt k n ≡ false
not-below k n l = grind arith

is-below : (k n : ℕ) → k < n → nat_lt k n ≡ true
is-below k n l = grind arith

-- no place is before that of the list's first element
none-before : (p : Var → Bool) (vars : List Var) (k n : ℕ) → n ≤ k → is_before n (position_from p k vars) ≡ false
none-before p [] k n l = refl
none-before p (v ∷ vs) k n l = by (p v) (none-before p vs (k + 1) n (omega arith))
  where
    by : (b : Bool) → is_before n (position_from p (k + 1) vs) ≡ false → is_before n (cond b (Some k) (position_from p (k + 1) vs)) ≡ false
    by true h = not-below k n l
    by false h = h

-- the first place that passes a test is in the front if some element of the front passes it
before-is : (p : Var → Bool) (vars : List Var) (k n : ℕ) → is_before (k + n) (position_from p k vars) ≡ list_any p (take n vars)
before-is p [] k zero = refl
before-is p [] k (suc n) = refl
before-is p (v ∷ vs) k zero = none-before p (v ∷ vs) k (k + 0) (omega arith)
before-is p (v ∷ vs) k (suc n) = by (p v) (before-is p vs (k + 1) n)
  where
    more : (k + 1) + n ≡ k + suc n
    more = omega arith

    by : (b : Bool) → is_before ((k + 1) + n) (position_from p (k + 1) vs) ≡ list_any p (take n vs)
        → is_before (k + suc n) (cond b (Some k) (position_from p (k + 1) vs)) ≡ (b || list_any p (take n vs))
    by true h = is-below k (k + suc n) (omega arith)
    by false h = ap (λ (m : ℕ). is_before m (position_from p (k + 1) vs)) (sym more) ∙ h

pub front-has : (vars : List Var) (n : ℕ) (x : Var) → is_before n (position_from (λ v. same_var v x) 0 vars) ≡ has (take n vars) x
front-has vars n x =
    ap (λ (m : ℕ). is_before m (position_from (λ v. same_var v x) 0 vars)) (let e : n ≡ 0 + n = omega arith in e) ∙ before-is (λ v. same_var v x) vars 0 n

joined-has : (lists : List (List Var)) (x : Var) → list_any (λ vars. has vars x) lists ≡ has (joined lists) x
joined-has [] x = refl
joined-has (vars ∷ lists) x =
    ap (λ (b : Bool). has vars x || b) (joined-has lists x) ∙ sym (list_any-append (λ v. same_var v x) vars (joined lists))

-- joined lists have what one of them has
pub scope-has : (outer : List (List Var)) (last : List Var) (x : Var)
    → (list_any (λ vars. has vars x) outer || has last x) ≡ has (joined outer ++ last) x
scope-has outer last x =
    ap (λ (b : Bool). b || has last x) (joined-has outer x) ∙ sym (list_any-append (λ v. same_var v x) (joined outer) last)
