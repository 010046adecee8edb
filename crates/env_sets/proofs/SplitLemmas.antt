-- A set when one variable has a value: the entries that allow it, without the variable.
use Rattle.std.proofs.Common.{◌≡◌, ℕ, ◌+◌, ◌<◌, ◌≤◌, suc, Bool, true, false, ◌&&◌, ◌||◌, not, cond, refl, sym, ap, ◌∙◌, arith}
use Rattle.std.proofs.Common.{List, [], ◌∷◌, ◌++◌, length, get_or, take, ⊎_elim}
use Rattle.std.proofs.lemmas.List.{take_more}
use Rattle.std.proofs.lemmas.Grind.{common_steps}
use Rattle.smpl_terms.specs.declared.var.Var.{Var}
use Rattle.smpl_terms.specs.declared.value.Value.{Value}
use Rattle.smpl_terms.specs.Values.{same}
use Rattle.smpl_terms.specs.Vars.{same_var, has_pair}
use Rattle.smpl_terms.specs.Environments.{Environment}
use Rattle.smpl_terms.proofs.VarLaws.{same_var-equal, same_var-refl}
use Rattle.env_sets.specs.declared.bounds.Bound.{Bound}
use Rattle.env_sets.specs.Bounds.{fits, is_not}
use Rattle.env_sets.specs.Sets.{entry_denotes, entry_vars, set_denotes, set_vars}
use Rattle.env_sets.specs.Splits.{passes, without, restricted, occurs, agree, is_unnamed, none_named, size_of}
use Rattle.env_sets.proofs.BoundLemmas.{fits-along}
use Rattle.env_sets.proofs.LoopLemmas.{both_parts, or_cases, either_true}

-- the test gives the same answer for each bound of x as the value of x does
abbrev pub Decided : Var → (Bound → Bool) → Value → List (Var × Bound) → Type 0
Decided x test z [] = Unit {0}
Decided x test z (p ∷ ps) = (same_var p.0 x ≡ true → test p.1 ≡ fits z p.1) × Decided x test z ps

entry_step : (x : Var) (test : Bound → Bool) (env : Environment) (p : Var × Bound) (ps : List (Var × Bound)) (b : Bool)
    → (b ≡ true → p.0 ≡ x) → (b ≡ true → test p.1 ≡ fits (env x) p.1)
    → entry_denotes ps env ≡ (passes x test ps && entry_denotes (without x ps) env)
    → (fits (env p.0) p.1 && entry_denotes ps env)
    ≡ (((not b || test p.1) && passes x test ps) && entry_denotes (cond (not b) (p ∷ without x ps) (without x ps)) env)
entry_step x test env p ps true same_place decided rest =
    let e : test p.1 ≡ fits (env p.0) p.1 = decided refl ∙ ap (λ y. fits (env y) p.1) (sym (same_place refl)) in
    grind (arith, common_steps)
entry_step x test env p ps false same_place decided rest = grind (arith, common_steps)

pub entry-split : (x : Var) (test : Bound → Bool) (env : Environment) (ps : List (Var × Bound)) → Decided x test (env x) ps
    → entry_denotes ps env ≡ (passes x test ps && entry_denotes (without x ps) env)
entry-split x test env [] d = refl
entry-split x test env (p ∷ ps) d = entry_step x test env p ps (same_var p.0 x) (same_var-equal p.0 x) d.0 (entry-split x test env ps d.1)

abbrev pub AllDecided : Var → (Bound → Bool) → Value → List (List (Var × Bound)) → Type 0
AllDecided x test z [] = Unit {0}
AllDecided x test z (e ∷ es) = Decided x test z e × AllDecided x test z es

set_step : (x : Var) (test : Bound → Bool) (env : Environment) (e : List (Var × Bound)) (es : List (List (Var × Bound))) (b : Bool)
    → entry_denotes e env ≡ (b && entry_denotes (without x e) env) → set_denotes (restricted x test es) env ≡ set_denotes es env
    → set_denotes (cond b (without x e ∷ restricted x test es) (restricted x test es)) env ≡ (entry_denotes e env || set_denotes es env)
set_step x test env e es true h rest = grind (arith, common_steps)
set_step x test env e es false h rest = grind (arith, common_steps)

pub set-split : (x : Var) (test : Bound → Bool) (env : Environment) (es : List (List (Var × Bound))) → AllDecided x test (env x) es
    → set_denotes (restricted x test es) env ≡ set_denotes es env
set-split x test env [] d = refl
set-split x test env (e ∷ es) d = set_step x test env e es (passes x test e) (entry-split x test env e d.0) (set-split x test env es d.1)

-- when x is v
pub fits-Decided : (x : Var) (v z : Value) → same v z ≡ true → (ps : List (Var × Bound)) → Decided x (fits v) z ps
fits-Decided x v z h [] = tt
fits-Decided x v z h (p ∷ ps) = (λ _. fits-along v z h p.1, fits-Decided x v z h ps)

fits-AllDecided : (x : Var) (v z : Value) → same v z ≡ true → (es : List (List (Var × Bound))) → AllDecided x (fits v) z es
fits-AllDecided x v z h [] = tt
fits-AllDecided x v z h (e ∷ es) = (fits-Decided x v z h e, fits-AllDecided x v z h es)

pub is-split : (x : Var) (v : Value) (env : Environment) (es : List (List (Var × Bound))) → same v (env x) ≡ true
    → set_denotes (restricted x (fits v) es) env ≡ set_denotes es env
is-split x v env es h = set-split x (fits v) env es (fits-AllDecided x v (env x) h es)

-- when x is a value that no entry names
agree-equal : (a b : Bool) → agree a b ≡ true → a ≡ b
agree-equal true b h = sym h
agree-equal false true h = absurd cc
agree-equal false false h = refl

unnamed-Decided : (x : Var) (z : Value) (ps : List (Var × Bound)) → is_unnamed x z ps ≡ true → Decided x is_not z ps
unnamed-Decided x z [] h = tt
unnamed-Decided x z (p ∷ ps) h =
    (λ e. agree-equal (is_not p.1) (fits z p.1) (grind (arith, common_steps)), unnamed-Decided x z ps (grind (arith, common_steps)))

unnamed-AllDecided : (x : Var) (z : Value) (es : List (List (Var × Bound))) → none_named x z es ≡ true → AllDecided x is_not z es
unnamed-AllDecided x z [] h = tt
unnamed-AllDecided x z (e ∷ es) h = (unnamed-Decided x z e (grind (arith, common_steps)), unnamed-AllDecided x z es (grind (arith, common_steps)))

pub other-split : (x : Var) (env : Environment) (es : List (List (Var × Bound))) → none_named x (env x) es ≡ true
    → set_denotes (restricted x is_not es) env ≡ set_denotes es env
other-split x env es h = set-split x is_not env es (unnamed-AllDecided x (env x) es h)

-- the variables
vars_step : (x : Var) (t : Var → Bool) (p : Var × Bound) (ps : List (Var × Bound)) (b : Bool) → (entry_vars t ps ≡ true → entry_vars t (without x ps) ≡ true)
    → (t p.0 && entry_vars t ps) ≡ true → entry_vars t (cond (not b) (p ∷ without x ps) (without x ps)) ≡ true
vars_step x t p ps true rest h = rest (grind (arith, common_steps))
vars_step x t p ps false rest h = let r = rest (grind (arith, common_steps)) in grind (arith, common_steps)

without_fewer : (x : Var) (t : Var → Bool) (ps : List (Var × Bound)) → entry_vars t ps ≡ true → entry_vars t (without x ps) ≡ true
without_fewer x t [] h = refl
without_fewer x t (p ∷ ps) h = vars_step x t p ps (same_var p.0 x) (without_fewer x t ps) h

restricted_step : (x : Var) (test : Bound → Bool) (t : Var → Bool) (e : List (Var × Bound)) (es : List (List (Var × Bound))) (b : Bool)
    → (entry_vars t e ≡ true → entry_vars t (without x e) ≡ true) → (set_vars t es ≡ true → set_vars t (restricted x test es) ≡ true)
    → (entry_vars t e && set_vars t es) ≡ true → set_vars t (cond b (without x e ∷ restricted x test es) (restricted x test es)) ≡ true
restricted_step x test t e es true one rest h = let a = one (grind (arith, common_steps)) in let b =
    rest (grind (arith, common_steps)) in grind (arith, common_steps)
restricted_step x test t e es false one rest h = rest (grind (arith, common_steps))

pub restricted_vars : (x : Var) (test : Bound → Bool) (t : Var → Bool) (es : List (List (Var × Bound))) → set_vars t es ≡ true
    → set_vars t (restricted x test es) ≡ true
restricted_vars x test t [] h = refl
restricted_vars x test t (e ∷ es) h = restricted_step x test t e es (passes x test e) (without_fewer x t e) (restricted_vars x test t es) h

-- a variable that an entry bounds is one of the set's
pair_vars : (x : Var) (t : Var → Bool) (ps : List (Var × Bound)) → has_pair ps x ≡ true → entry_vars t ps ≡ true → t x ≡ true
pair_vars x t [] h k = absurd cc
pair_vars x t (p ∷ ps) h k =
    let parts = both_parts (t p.0) (entry_vars t ps) k in
    ⊎_elim (λ a. sym (ap t (same_var-equal p.0 x a)) ∙ parts.0) (λ b. pair_vars x t ps b parts.1) (or_cases (same_var p.0 x) (has_pair ps x) h)

pub occurs_vars : (x : Var) (t : Var → Bool) (es : List (List (Var × Bound))) → occurs x es ≡ true → set_vars t es ≡ true → t x ≡ true
occurs_vars x t [] h k = absurd cc
occurs_vars x t (e ∷ es) h k =
    let parts = both_parts (entry_vars t e) (set_vars t es) k in
    ⊎_elim (λ a. pair_vars x t e a parts.0) (λ b. occurs_vars x t es b parts.1) (or_cases (has_pair e x) (occurs x es) h)

-- what is left is smaller
without_size : (x : Var) (ps : List (Var × Bound)) → length (without x ps) ≤ length ps
without_size x [] = omega arith
without_size x (p ∷ ps) = elim (same_var p.0 x) as (λ b. length (cond (not b) (p ∷ without x ps) (without x ps))
    ≤ suc (length ps)) [ true ↦ omega (arith, without_size x ps) | false ↦ omega (arith, without_size x ps) ]

restricted_size : (x : Var) (test : Bound → Bool) (es : List (List (Var × Bound))) → size_of (restricted x test es) ≤ size_of es
restricted_size x test [] = omega arith
restricted_size x test (e ∷ es) =
    elim (passes x test e) as (λ b. size_of (cond b (without x e ∷ restricted x test es) (restricted x test es)) ≤ length e + size_of es)
    [ true ↦ omega (arith, without_size x e, restricted_size x test es) | false ↦ omega (arith, restricted_size x test es) ]

without_shorter : (x : Var) (ps : List (Var × Bound)) → has_pair ps x ≡ true → length (without x ps) < length ps
without_shorter x [] h = absurd cc
without_shorter x (p ∷ ps) h =
    elim (same_var p.0 x) as (λ b. (b || has_pair ps x) ≡ true → length (cond (not b) (p ∷ without x ps) (without x ps)) < suc (length ps))
    [ true ↦ λ k. omega (arith, without_size x ps) | false ↦ λ k. omega (arith, without_shorter x ps k) ] h

pub occurs_size : (x : Var) (test : Bound → Bool) (es : List (List (Var × Bound))) → occurs x es ≡ true → size_of (restricted x test es) < size_of es
occurs_size x test [] h = absurd cc
occurs_size x test (e ∷ es) h =
    elim (passes x test e) as (λ b. size_of (cond b (without x e ∷ restricted x test es) (restricted x test es)) < length e + size_of es) [
      | true ↦ ⊎_elim (λ a. omega (arith, without_shorter x e a, restricted_size x test es))
          (λ r. omega (arith, without_size x e, occurs_size x test es r)) (or_cases (has_pair e x) (occurs x es) h)
      | false ↦ ⊎_elim (λ a. omega (arith, without_shorter x e a, restricted_size x test es))
          (λ r. omega (arith, occurs_size x test es r)) (or_cases (has_pair e x) (occurs x es) h)
    ]

-- one more entry
pub restricted-push : (x : Var) (test : Bound → Bool) (es : List (List (Var × Bound))) (e : List (Var × Bound))
    → restricted x test (es ++ e ∷ []) ≡ restricted x test es ++ cond (passes x test e) (without x e ∷ []) []
restricted-push x test [] e = elim (passes x test e) as (λ b. cond b (without x e ∷ []) [] ≡ [] ++ cond b (without x e ∷ []) []) [ true ↦ refl | false ↦ refl ]
restricted-push x test (d ∷ es) e =
    elim (passes x test d) as (λ b. cond b (without x d ∷ restricted x test (es ++ e ∷ [])) (restricted x test (es ++ e ∷ []))
    ≡ cond b (without x d ∷ restricted x test es) (restricted x test es) ++ cond (passes x test e) (without x e ∷ []) [])
    [ true ↦ ap (λ l. without x d ∷ l) (restricted-push x test es e) | false ↦ restricted-push x test es e ]

-- a step of the loop that restricts
pub where_step : (x : Var) (test : Bound → Bool) (es : List (List (Var × Bound))) (i : ℕ) (e : List (Var × Bound))
    (old new : List (List (Var × Bound))) (b : Bool)
    → i < length es → e ≡ get_or es i e → b ≡ passes x test e → old ≡ restricted x test (take i es) → new ≡ old ++ cond b (without x e ∷ []) []
    → new ≡ restricted x test (take (i + 1) es)
where_step x test es i e old new b lt at is before after =
    after ∙ (λ j. before j ++ cond (is j) (without x e ∷ []) [])
    ∙ sym (ap (restricted x test) (take_more es i e lt ∙ ap (λ d. take i es ++ d ∷ []) (sym at)) ∙ restricted-push x test (take i es) e)

-- the first entry bounds its first variable
pub occurs_at : (es : List (List (Var × Bound))) (e : List (Var × Bound)) (p : Var × Bound) → 1 ≤ length es → e ≡ get_or es 0 e
    → 1 ≤ length e → p ≡ get_or e 0 p → occurs p.0 es ≡ true
occurs_at [] e p some at more here = absurd (omega arith)
occurs_at ([] ∷ es) e p some at more here = absurd (omega (arith, ap length at))
occurs_at ((q ∷ qs) ∷ es) e p some at more here =
    let first : p ≡ q = here ∙ ap (λ d. get_or d 0 p) at in
    let same_place : same_var q.0 p.0 ≡ true = ap (λ y. same_var y p.0) (sym (ap (λ y. y.0) first)) ∙ same_var-refl p.0 in
    either_true _ _ (either_true _ _ same_place)

-- the complement, value by value
pub complement_step : (any s P A : Bool) → (s ≡ true → P ≡ A) → ((any && not A) || (not P && s)) ≡ ((any || s) && not A)
complement_step true true P A h = let e = h refl in grind (arith, common_steps)
complement_step false true P A h = let e = h refl in grind (arith, common_steps)
complement_step true false P A h = grind (arith, common_steps)
complement_step false false P A h = grind (arith, common_steps)

-- and when the variable has none of the values
pub complement_end : (any P A : Bool) → (any ≡ false → P ≡ A) → ((any && not A) || (not P && not any)) ≡ not A
complement_end true P A h = grind (arith, common_steps)
complement_end false P A h = let e = h refl in grind (arith, common_steps)

-- one bound, of a variable that passes a test
pub lone_var : (b : Bool) → b ≡ true → ((b && true) && true) ≡ true
lone_var true h = refl
lone_var false h = absurd cc
