-- Environments pair by pair.
use Rattle.std.proofs.Common.{◌≡◌, ℕ, suc, zero, ◌+◌, ◌<◌, Bool, true, false, cond, ◌&&◌, refl, sym, ap, ◌∙◌, arith, List, []}
use Rattle.std.proofs.Common.{◌∷◌, ◌++◌, length, get_or, take, Option, Some, None, unwrap_or, is_some, ◌≤◌, subst, add-one}
use Rattle.std.proofs.Common.{Contains}
use Rattle.std.proofs.lemmas.List.{take_all, take_more}
use Rattle.ctl_fixpoint.proofs.CtlHolds.TestLemmas.{Contains-first, Contains-later}
use Rattle.smpl_terms.specs.declared.var.Var.{Var}
use Rattle.smpl_terms.specs.declared.value.Value.{Value}
use Rattle.smpl_terms.specs.declared.value.Value.TheVariants.{Place}
use Rattle.smpl_terms.specs.Vars.{same_var}
use Rattle.smpl_terms.specs.Values.{same}
use Rattle.smpl_terms.specs.Environments.{value_in, has_value, total, change}
use Rattle.smpl_terms.proofs.VarLaws.{same_var-sym, same_var-refl, same_var-equal}
use Rattle.smpl_terms.proofs.ValueLaws.{same-refl}
use Rattle.wit_forest.specs.WitTrees.Alike.{Alike}

-- one more pair after the others: it decides if none of them does
pub value_in-push : (ps : List (Var × Value)) (p : Var × Value) (y : Var)
    → value_in (ps ++ p ∷ []) y ≡ cond (is_some (value_in ps y)) (value_in ps y) (cond (same_var p.0 y) (Some p.1) None)
value_in-push [] p y = refl
value_in-push (q ∷ ps) p y = at (same_var q.0 y) (value_in-push ps p y)
  where
    at : (b : Bool) → value_in (ps ++ p ∷ []) y ≡ cond (is_some (value_in ps y)) (value_in ps y) (cond (same_var p.0 y) (Some p.1) None)
        → cond b (Some q.1) (value_in (ps ++ p ∷ []) y)
        ≡ cond (is_some (cond b (Some q.1) (value_in ps y))) (cond b (Some q.1) (value_in ps y)) (cond (same_var p.0 y) (Some p.1) None)
    at true h = refl
    at false h = h

-- one more variable with a value, in an environment without it
pub changed_value : (env rest r : List (Var × Value)) (x : Var) (v : Value)
    → ((y : Var) → value_in rest y ≡ cond (same_var y x) None (value_in env y))
    → ((y : Var) → value_in r y ≡ cond (same_var x y) (Some v) (value_in rest y))
    → (y : Var) → total r y ≡ change (total env) x v y
changed_value env rest r x v h k y =
    ap (λ o. unwrap_or o (Place 0)) (k y ∙ (λ i. cond (same_var-sym x y i) (Some v) (h y i)))
    ∙ at (same_var y x)
  where
    at : (b : Bool) → unwrap_or (cond b (Some v) (cond b None (value_in env y))) (Place 0) ≡ cond b v (unwrap_or (value_in env y) (Place 0))
    at true = refl
    at false = refl

-- ---- an environment without a variable

tells : (ps : List (Var × Value)) (x y : Var) → same_var x y ≡ true → value_in ps x ≡ value_in ps y
tells ps x y h = ap (value_in ps) (same_var-equal x y h)

-- a pair whose variable already has a value adds nothing
pub put_known : (ps : List (Var × Value)) (p : Var × Value) → true ≡ has_value ps p.0 → (y : Var) → value_in ps y ≡ value_in (ps ++ p ∷ []) y
put_known ps p h y = sym (value_in-push ps p y ∙ at (value_in ps y) (same_var p.0 y) refl refl)
  where
    at : (o : Option Value) (b : Bool) → value_in ps y ≡ o → same_var p.0 y ≡ b → cond (is_some o) o (cond b (Some p.1) None) ≡ o
    at (Some v) b e f = refl
    at None false e f = refl
    at None true e f = let clash : true ≡ false = h ∙ ap is_some (tells ps p.0 y f ∙ e) in absurd cc

-- a pair whose variable has no value yet adds its own
pub put_new : (ps : List (Var × Value)) (p : Var × Value) → value_in ps p.0 ≡ None
    → (y : Var) → cond (same_var p.0 y) (Some p.1) (value_in ps y) ≡ value_in (ps ++ p ∷ []) y
put_new ps p h y = at (value_in ps y) (same_var p.0 y) refl refl ∙ sym (value_in-push ps p y)
  where
    at : (o : Option Value) (b : Bool) → value_in ps y ≡ o → same_var p.0 y ≡ b
        → cond b (Some p.1) o ≡ cond (is_some o) o (cond b (Some p.1) None)
    at None b e f = refl
    at (Some v) false e f = refl
    at (Some v) true e f = let clash : ◌≡◌ {A = Option Value} None (Some v) = sym h ∙ tells ps p.0 y f ∙ e in absurd cc

kept_step : (a : Option Value) (b c d : Bool) (v : Value) → (b ≡ true → c ≡ d)
    → cond c (cond d None a) (cond (is_some (cond d None a)) (cond d None a) (cond b (Some v) None))
    ≡ cond d None (cond (is_some a) a (cond b (Some v) None))
kept_step a true true true v h = refl
kept_step a true false true v h = absurd (let e : false ≡ true = h refl in cc)
kept_step a false true true v h = refl
kept_step a false false true v h = refl
kept_step a b false false v h = refl
kept_step (Some u) b true false v h = refl
kept_step None false true false v h = refl
kept_step None true true false v h = absurd (let e : true ≡ false = h refl in cc)

-- one more pair of the list, with x left out
pub without_step : (ps rest next : List (Var × Value)) (p : Var × Value) (x : Var)
    → ((y : Var) → value_in rest y ≡ cond (same_var y x) None (value_in ps y))
    → ((y : Var) → value_in next y ≡ cond (same_var p.0 x) (value_in rest y) (value_in (rest ++ p ∷ []) y))
    → (y : Var) → value_in next y ≡ cond (same_var y x) None (value_in (ps ++ p ∷ []) y)
without_step ps rest next p x h k y =
    k y
    ∙ (λ i. cond (same_var p.0 x) (h y i) ((value_in-push rest p y ∙ (λ j. cond (is_some (h y j)) (h y j) (cond (same_var p.0 y) (Some p.1) None))) i))
    ∙ kept_step (value_in ps y) (same_var p.0 y) (same_var p.0 x) (same_var y x) p.1 (λ e. ap (λ z. same_var z x) (same_var-equal p.0 y e))
    ∙ ap (cond (same_var y x) None) (sym (value_in-push ps p y))

pub drop_none : (ps rest : List (Var × Value)) (x : Var) → has_value ps x ≡ false → rest ≡ ps
    → (y : Var) → value_in rest y ≡ cond (same_var y x) None (value_in ps y)
drop_none ps rest x h e y = ap (λ r. value_in r y) e ∙ at (same_var y x) refl
  where
    none : (o : Option Value) → is_some o ≡ false → o ≡ None
    none None k = refl
    none (Some v) k = absurd cc

    at : (b : Bool) → same_var y x ≡ b → value_in ps y ≡ cond b None (value_in ps y)
    at true f = tells ps y x f ∙ none (value_in ps x) h
    at false f = refl

pub without_has : (env rest : List (Var × Value)) (x : Var) → ((y : Var) → value_in rest y ≡ cond (same_var y x) None (value_in env y))
    → value_in rest x ≡ None
without_has env rest x h = h x ∙ ap (λ b. cond b None (value_in env x)) (same_var-refl x)

-- ---- pair by pair

pub none_of : (o : Option Value) → false ≡ is_some o → o ≡ None
none_of None h = refl
none_of (Some v) h = absurd cc

-- the number at a place of a list is in the list
pub member : (xs : List ℕ) (i : ℕ) → i < length xs → Contains xs (get_or xs i 0)
member [] i lt = absurd (omega (arith, lt))
member (x ∷ xs) zero lt = Contains-first x xs
member (x ∷ xs) (suc i) lt = Contains-later x (get_or xs i 0) xs (member xs i (omega (arith, lt)))

pub without_next : (ps : List (Var × Value)) (i : ℕ) (rest next : List (Var × Value)) (p : Var × Value) (x : Var) → i < length ps → p ≡ get_or ps i p
    → ((y : Var) → value_in rest y ≡ cond (same_var y x) None (value_in (take i ps) y))
    → ((y : Var) → value_in next y ≡ cond (same_var p.0 x) (value_in rest y) (value_in (rest ++ p ∷ []) y))
    → (y : Var) → value_in next y ≡ cond (same_var y x) None (value_in (take (i + 1) ps) y)
without_next ps i rest next p x lt at h k y =
    let more : take i ps ++ p ∷ [] ≡ take (i + 1) ps = ap (λ q. take i ps ++ q ∷ []) at ∙ sym (take_more ps i p lt) in
    without_step (take i ps) rest next p x h k y ∙ ap (λ qs. cond (same_var y x) None (value_in qs y)) more
