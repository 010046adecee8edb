-- How an insert and a write change what an entry stands for, and its variables.
use Rattle.std.proofs.Common.{◌≡◌, ℕ, suc, zero, ◌<◌, Bool, true, false, ◌&&◌, refl, sym, ap, ◌∙◌, arith, List, [], ◌∷◌, length, get_or}
use Rattle.std.proofs.Math.ListN.{set}
use Rattle.std.specs.List.{list_all, insert}
use Rattle.std.proofs.lemmas.Grind.{common_steps}
use Rattle.smpl_terms.specs.declared.var.Var.{Var}
use Rattle.smpl_terms.specs.declared.value.Value.{Value}
use Rattle.smpl_terms.specs.Environments.{Environment}
use Rattle.env_sets.specs.declared.bounds.Bound.{Bound}
use Rattle.env_sets.specs.Bounds.{fits}
use Rattle.env_sets.specs.Sets.{entry_denotes, entry_vars}

and-swap : (a b c d : Bool) → b ≡ (c && d) → (a && b) ≡ (a && c && d)
and-swap true b c d e = e
and-swap false b c d e = refl

pub all-insert : {X : Type 0} (q : X → Bool) (xs : List X) (n : ℕ) (y : X) → list_all q (insert xs n y) ≡ (list_all q xs && q y)
all-insert q [] zero y = grind (arith, common_steps)
all-insert q [] (suc n) y = grind (arith, common_steps)
all-insert q (x ∷ xs) zero y = grind (arith, common_steps)
all-insert q (x ∷ xs) (suc n) y = let h = all-insert q xs n y in and-swap (q x) (list_all q (insert xs n y)) (list_all q xs) (q y) h

and-past : (a b c d : Bool) → a ≡ (b && d) → (a && c) ≡ (b && c && d)
and-past a true c d e = grind (arith, common_steps)
and-past a false c d e = grind (arith, common_steps)

pub all-set : {X : Type 0} (q : X → Bool) (xs : List X) (n : ℕ) (y d : X) (r : Bool) → n < length xs
    → q y ≡ (q (get_or xs n d) && r) → list_all q (set xs n y) ≡ (list_all q xs && r)
all-set q [] n y d r lt e = absurd (omega arith)
all-set q (x ∷ xs) zero y d r lt e = and-past (q y) (q x) (list_all q xs) r e
all-set q (x ∷ xs) (suc n) y d r lt e = let h = all-set q xs n y d r (omega arith) e in and-swap (q x) (list_all q (set xs n y)) (list_all q xs) r h

-- how an insert and a write change what an entry stands for, and its variables
pub insert_meaning : (xs self new : List (Var × Bound)) (n : ℕ) (x : Var) (b bound : Bound) → new ≡ insert xs n (x, b) → b ≡ bound → xs ≡ self
    → (env : Environment) → entry_denotes new env ≡ (entry_denotes self env && fits (env x) bound)
insert_meaning xs self new n x b bound e f v env =
    rw (e, f, ← v) (all-insert (λ p. fits (env p.0) p.1) xs n (x, bound))

pub both_true : (a b : Bool) → a ≡ true → b ≡ true → (a && b) ≡ true
both_true a b h k = grind (arith, common_steps)

pub insert_vars : (xs self new : List (Var × Bound)) (n : ℕ) (x : Var) (b : Bound) → new ≡ insert xs n (x, b) → xs ≡ self
    → (t : Var → Bool) → entry_vars t self ≡ true → t x ≡ true → entry_vars t new ≡ true
insert_vars xs self new n x b e v t h k =
    let r : entry_vars t new ≡ (entry_vars t self && t x) = rw (e, ← v) (all-insert (λ (p : Var × Bound). t p.0) xs n (x, b)) in
    r ∙ both_true (entry_vars t self) (t x) h k

pub set_meaning : (xs self : List (Var × Bound)) (n : ℕ) (x : Var) (both bound : Bound) (d : Var × Bound) → n < length xs → d ≡ get_or xs n d → d.0 ≡ x
    → ((y : Value) → fits y both ≡ (fits y d.1 && fits y bound)) → xs ≡ self
    → (env : Environment) → entry_denotes (set xs n (x, both)) env ≡ (entry_denotes self env && fits (env x) bound)
set_meaning xs self n x both bound d lt g k m v env =
    let s : fits (env x) both ≡ (fits (env (get_or xs n d).0) (get_or xs n d).1 && fits (env x) bound) =
    m (env x) ∙ ap (λ u. fits (env u) d.1 && fits (env x) bound) (sym k) ∙ ap (λ (u : Var × Bound). fits (env u.0) u.1 && fits (env x) bound) g in
    rw (← v) (all-set (λ p. fits (env p.0) p.1) xs n (x, both) d (fits (env x) bound) lt s)

all-set_kept : {X : Type 0} (q : X → Bool) (xs : List X) (n : ℕ) (y : X) → list_all q xs ≡ true → q y ≡ true → list_all q (set xs n y) ≡ true
all-set_kept q [] n y h k = refl
all-set_kept q (x ∷ xs) zero y h k = grind (arith, common_steps)
all-set_kept q (x ∷ xs) (suc n) y h k =
    let a : q x ≡ true = grind (arith, common_steps) in
    let b : list_all q xs ≡ true = grind (arith, common_steps) in
    both_true (q x) (list_all q (set xs n y)) a (all-set_kept q xs n y b k)

pub set_vars_kept : (xs self : List (Var × Bound)) (n : ℕ) (x : Var) (both : Bound) (d : Var × Bound) → n < length xs → xs ≡ self
    → (t : Var → Bool) → entry_vars t self ≡ true → t x ≡ true → entry_vars t (set xs n (x, both)) ≡ true
set_vars_kept xs self n x both d lt v t h k = all-set_kept (λ (p : Var × Bound). t p.0) xs n (x, both) (ap (entry_vars t) v ∙ h) k

-- two readings of one place
pub one_place : (xs : List (Var × Bound)) (n : ℕ) (d e : Var × Bound) → n < length xs → d ≡ get_or xs n d → e ≡ get_or xs n e → d ≡ e
one_place [] n d e lt f g = absurd (omega arith)
one_place (x ∷ xs) zero d e lt f g = f ∙ sym g
one_place (x ∷ xs) (suc n) d e lt f g = one_place xs n d e (omega arith) f g
