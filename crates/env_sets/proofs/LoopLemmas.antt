-- Steps of loops over the members of an entry or a set.
use Rattle.std.proofs.Common.{◌≡◌, ℕ, suc, zero, ◌+◌, ◌<◌, Bool, true, false, ◌&&◌, ◌||◌, not, Option, None, Some, refl, sym}
use Rattle.std.proofs.Common.{ap, ◌∙◌, arith, List, [], ◌∷◌, ◌++◌, length, get_or, take, drop, inl, inr, ◌⊎◌, ⊎_elim}
use Rattle.std.specs.List.{list_all, list_any}
use Rattle.std.specs.Bool.{Decides}
use Rattle.std.specs.Option.{option_to_list}
use Rattle.smpl_terms.specs.declared.value.Value.{Value}
use Rattle.env_sets.specs.declared.bounds.Bound.{Bound}
use Rattle.env_sets.specs.Sets.{entry_denotes, option_denotes, set_denotes, entry_vars, option_vars, set_vars, ForSomeValue}
use Rattle.smpl_terms.specs.declared.var.Var.{Var}
use Rattle.smpl_terms.specs.Environments.{Environment, change}
use Rattle.std.proofs.lemmas.Grind.{common_steps}
use Rattle.std.proofs.lemmas.List.Folds.{list_any_more, list_all_more, list_any-append, list_all-append}
use Rattle.std.proofs.lemmas.List.Sorted.{list_any-IsPermutation}
use Rattle.std.specs.List.Sorted.{IsPermutation}
use Rattle.smpl_terms.specs.Values.{same}
use Rattle.smpl_terms.proofs.ValueLaws.{same-sym, same-along}

and-assoc_at : (a b c d : Bool) → b ≡ (c && d) → (a && b) ≡ ((a && c) && d)
and-assoc_at true b c d e = e
and-assoc_at false b c d e = refl

pub all_split : {X : Type 0} (q : X → Bool) (xs : List X) (i : ℕ) (x : X) → i < length xs → x ≡ get_or xs i x
    → list_all q xs ≡ (list_all q (take i xs) && (q x && list_all q (drop (suc i) xs)))
all_split q [] i x lt e = absurd (omega arith)
all_split q (y ∷ ys) zero x lt e = rw e refl
all_split q (y ∷ ys) (suc i) x lt e = let r = all_split q ys i x (omega arith) e in and-assoc_at (q y) _ _ _ r

fails : (w p t q d : Bool) → p ≡ (w && t) → false ≡ (p && q) → false ≡ (w && (t && (q && d)))
fails w p t q d e h = grind (arith, common_steps)

-- what fails after some members fails after all
pub all_fails : {X : Type 0} (q : X → Bool) (xs zs : List X) (i : ℕ) (x : X) (whole part : Bool) → i < length xs → x ≡ get_or xs i x → xs ≡ zs
    → part ≡ (whole && list_all q (take i xs)) → false ≡ (part && q x) → false ≡ (whole && list_all q zs)
all_fails q xs zs i x whole part lt e z m n =
    let s = all_split q xs i x lt e in
    rw (← z, s) (fails whole part (list_all q (take i xs)) (q x) (list_all q (drop (suc i) xs)) m n)

pub either_true : (a b : Bool) → a ≡ true → (a || b) ≡ true
either_true a b h = grind (arith, common_steps)

pub or_true : (a b : Bool) → b ≡ true → (a || b) ≡ true
or_true a b h = grind (arith, common_steps)

pub or_cases : (a b : Bool) → (a || b) ≡ true → (a ≡ true) ⊎ (b ≡ true)
or_cases true b h = inl refl
or_cases false b h = inr h

-- one more entry without x
pub project_step : (es : List (List (Var × Bound))) (i : ℕ) (e : List (Var × Bound)) (x : Var) (env : Environment) (r s d : Bool)
    → i < length es → e ≡ get_or es i e → r ≡ (s || d)
    → Decides s (ForSomeValue (λ v. set_denotes (take i es) (change env x v)))
    → Decides d (ForSomeValue (λ v. entry_denotes e (change env x v)))
    → Decides r (ForSomeValue (λ v. set_denotes (take (i + 1) es) (change env x v)))
project_step es i e x env r s d lt at is old new =
    let more = λ (v : Value). list_any_more (λ f. entry_denotes f (change env x v)) es i e lt
    ∙ ap (λ f. set_denotes (take i es) (change env x v) || entry_denotes f (change env x v)) (sym at) in (
      λ h. ⊎_elim
          (λ a. let w = old.0 a in (w.0, more w.0 ∙ either_true _ _ w.1))
          (λ b. let w = new.0 b in (w.0, more w.0 ∙ or_true _ _ w.1))
          (or_cases s d (sym is ∙ h)),
      λ w. is ∙ ⊎_elim
          (λ a. either_true s d (old.1 (w.0, a)))
          (λ b. or_true s d (new.1 (w.0, b)))
          (or_cases _ _ (sym (more w.0) ∙ w.1)),
    )

middle_false : (a b c : Bool) → b ≡ false → false ≡ (a && (b && c))
middle_false a b c h = grind (arith, common_steps)

-- what one member fails, not all pass
pub all_fails_at : {X : Type 0} (q : X → Bool) (xs zs : List X) (i : ℕ) (x : X) → i < length xs → x ≡ get_or xs i x → xs ≡ zs
    → q x ≡ false → false ≡ list_all q zs
all_fails_at q xs zs i x lt e z h =
    let s = all_split q xs i x lt e in
    rw (← z, s) (middle_false (list_all q (take i xs)) (q x) (list_all q (drop (suc i) xs)) h)

middle_true : (a b c : Bool) → (a && (b && c)) ≡ true → b ≡ true
middle_true a b c h = grind (arith, common_steps)

-- what each member passes, one passes
pub all_at : {X : Type 0} (q : X → Bool) (xs : List X) (i : ℕ) (x : X) → i < length xs → x ≡ get_or xs i x → list_all q xs ≡ true → q x ≡ true
all_at q xs i x lt e h = middle_true (list_all q (take i xs)) (q x) (list_all q (drop (suc i) xs)) (sym (all_split q xs i x lt e) ∙ h)

-- one more member
pub any_step : {X : Type 0} (q : X → Bool) (xs : List X) (i : ℕ) (x : X) → i < length xs → x ≡ get_or xs i x
    → list_any q (take (i + 1) xs) ≡ (list_any q (take i xs) || q x)
any_step q xs i x lt e = list_any_more q xs i x lt ∙ ap (λ y. list_any q (take i xs) || q y) (sym e)

pub all_step : {X : Type 0} (q : X → Bool) (xs : List X) (i : ℕ) (x : X) → i < length xs → x ≡ get_or xs i x
    → list_all q (take (i + 1) xs) ≡ (list_all q (take i xs) && q x)
all_step q xs i x lt e = list_all_more q xs i x lt ∙ ap (λ y. list_all q (take i xs) && q y) (sym e)

pub both_parts : (a b : Bool) → (a && b) ≡ true → (a ≡ true) × (b ≡ true)
both_parts true b h = (refl, h)
both_parts false b h = absurd cc

or-false : (a : Bool) → (a || false) ≡ a
or-false true = refl
or-false false = refl

pub and-true : (a : Bool) → (a && true) ≡ a
and-true true = refl
and-true false = refl

pub denotes_one : (es : List (List (Var × Bound))) (e : List (Var × Bound)) (env : Environment)
    → set_denotes (es ++ e ∷ []) env ≡ (set_denotes es env || entry_denotes e env)
denotes_one es e env = list_any-append (λ d. entry_denotes d env) es (e ∷ []) ∙ ap (λ b. set_denotes es env || b) (or-false (entry_denotes e env))

pub vars_one : (es : List (List (Var × Bound))) (e : List (Var × Bound)) (t : Var → Bool) → set_vars t (es ++ e ∷ []) ≡ (set_vars t es && entry_vars t e)
vars_one es e t = list_all-append (λ d. entry_vars t d) es (e ∷ []) ∙ ap (λ b. set_vars t es && b) (and-true (entry_vars t e))

pub denotes_some : (es : List (List (Var × Bound))) (o : Option (List (Var × Bound))) (env : Environment)
    → set_denotes (es ++ option_to_list o) env ≡ (set_denotes es env || option_denotes o env)
denotes_some es None env = list_any-append (λ d. entry_denotes d env) es []
denotes_some es (Some e) env = denotes_one es e env

pub vars_some : (es : List (List (Var × Bound))) (o : Option (List (Var × Bound))) (t : Var → Bool)
    → set_vars t (es ++ option_to_list o) ≡ (set_vars t es && option_vars t o)
vars_some es None t = list_all-append (λ d. entry_vars t d) es []
vars_some es (Some e) t = vars_one es e t

all-not-any : {X : Type 0} (q : X → Bool) (xs : List X) → list_all q xs ≡ not (list_any (λ x. not (q x)) xs)
all-not-any q [] = refl
all-not-any q (x ∷ xs) = elim (q x) as (λ b. (b && list_all q xs) ≡ not (not b || list_any (λ y. not (q y)) xs)) [ true ↦ all-not-any q xs | false ↦ refl ]

pub list_all-IsPermutation : {X : Type 0} (q : X → Bool) (xs ys : List X) → IsPermutation xs ys → list_all q xs ≡ list_all q ys
list_all-IsPermutation q xs ys h = all-not-any q xs ∙ ap not (list_any-IsPermutation (λ x. not (q x)) xs ys h) ∙ sym (all-not-any q ys)

-- what one member passes, some member passes
pub any_at : {X : Type 0} (q : X → Bool) (xs : List X) (i : ℕ) (x : X) → i < length xs → x ≡ get_or xs i x → q x ≡ true → list_any q xs ≡ true
any_at q [] i x lt e h = absurd (omega arith)
any_at q (y ∷ ys) zero x lt e h = let k : q y ≡ true = ap q (sym e) ∙ h in either_true (q y) (list_any q ys) k
any_at q (y ∷ ys) (suc i) x lt e h = or_true (q y) (list_any q ys) (any_at q ys i x (omega arith) e h)

-- a value that is the same as one of the list adds nothing
pub known_value : (vs : List Value) (i : ℕ) (last v z : Value) → i < length vs → last ≡ get_or vs i last → same last v ≡ true
    → list_any (λ w. same w z) vs ≡ (list_any (λ w. same w z) vs || same v z)
known_value vs i last v z lt e h =
    elim (same v z) as (λ b. same v z ≡ b → list_any (λ w. same w z) vs ≡ (list_any (λ w. same w z) vs || b)) [
      | true ↦ λ k.
          let there : same last z ≡ true = same-sym last z ∙ same-along last v h z ∙ same-sym z v ∙ k in
          let all : list_any (λ w. same w z) vs ≡ true = any_at (λ w. same w z) vs i last lt e there in
          all ∙ sym (or_true (list_any (λ w. same w z) vs) true refl)
      | false ↦ λ k. sym (or-false (list_any (λ w. same w z) vs))
    ] refl

-- a member whose test and another test fail together
pub all_fails_at_both : {X : Type 0} (q : X → Bool) (xs zs : List X) (i : ℕ) (x : X) (r : Bool) → i < length xs
    → x ≡ get_or xs i x → xs ≡ zs → false ≡ (q x && r) → false ≡ (list_all q zs && r)
all_fails_at_both q xs zs i x r lt e z h =
    elim r as (λ b. false ≡ (q x && b) → false ≡ (list_all q zs && b)) [
      | true ↦ λ k. all_fails_at q xs zs i x lt e z (sym (and-true (q x)) ∙ sym k) ∙ sym (and-true (list_all q zs))
      | false ↦ λ k. elim (list_all q zs) as (λ a. false ≡ (a && false)) [ true ↦ refl | false ↦ refl ]
    ] h

pub any_push : {X : Type 0} (q : X → Bool) (xs : List X) (x : X) → list_any q (xs ++ x ∷ []) ≡ (list_any q xs || q x)
any_push q xs x = list_any-append q xs (x ∷ []) ∙ ap (λ b. list_any q xs || b) (or-false (q x))
