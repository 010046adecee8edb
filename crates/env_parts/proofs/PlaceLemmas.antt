-- Places in a list of different environments.
use Rattle.std.proofs.Common.{◌≡◌, ℕ, suc, Bool, true, false, ◌||◌, cond, Some, None, Option, refl, sym, ap, ◌∙◌, subst, List, [], ◌∷◌, ◌++◌, length}
use Rattle.std.specs.Prelude.{is_some, option_map, slice_get, IsSomeAnd}
use Rattle.std.specs.Option.{option_or}
use Rattle.std.specs.List.{list_any}
use Rattle.std.specs.Map.{lookup}
use Rattle.std.specs.Ordering.{is_eq}
use Rattle.std.proofs.lemmas.Cmp.{eq_by_cmp_equiv}
use Rattle.env_parts.specs.declared.key.Key.{Key}
use Rattle.env_parts.specs.Parts.{Pairs, same_env, env_order, with_new}
use Rattle.env_parts.specs.Places.{place_in, ArePlaces}
use Rattle.env_parts.proofs.EnvOrder.{is_eq-env_order}
use Rattle.env_parts.proofs.PartLemmas.{same_env-refl}
use Rattle.env_parts.specs.Ordered.{env_order_total}

same_env-sym : (a b : Pairs) → same_env a b ≡ same_env b a
same_env-sym a b = sym (is_eq-env_order a b) ∙ (eq_by_cmp_equiv env_order_total).symm a b ∙ is_eq-env_order b a

same_env-like : (a b c : Pairs) → same_env a b ≡ true → same_env a c ≡ same_env b c
same_env-like a b c h =
    sym (is_eq-env_order a c) ∙ (eq_by_cmp_equiv env_order_total).congr a b c (is_eq-env_order a b ∙ h) ∙ is_eq-env_order b c

place_in-like : (a b : Pairs) (envs : List Pairs) → same_env a b ≡ true → place_in a envs ≡ place_in b envs
place_in-like a b [] h = refl
place_in-like a b (e ∷ envs) h =
    λ i. cond (same_env-like a b e h i) (Some 0) (option_map suc (place_in-like a b envs h i))

or_suc : (o : Option ℕ) (b : Bool) (n : ℕ)
    → option_map suc (option_or o (cond b (Some n) None)) ≡ option_or (option_map suc o) (cond b (Some (suc n)) None)
or_suc None true n = refl
or_suc None false n = refl
or_suc (Some k) b n = refl

or_none : (o : Option ℕ) → option_or o None ≡ o
or_none None = refl
or_none (Some k) = refl

place_in_push : (env : Pairs) (envs : List Pairs) (e : Pairs)
    → place_in env (envs ++ e ∷ []) ≡ option_or (place_in env envs) (cond (same_env env e) (Some (length envs)) None)
place_in_push env [] e = refl
place_in_push env (x ∷ xs) e =
    elim (same_env env x) as (λ b. cond b (Some 0) (option_map suc (place_in env (xs ++ e ∷ [])))
    ≡ option_or (cond b (Some 0) (option_map suc (place_in env xs))) (cond (same_env env e) (Some (suc (length xs))) None)) [
      | true ↦ refl
      | false ↦ ap (option_map suc) (place_in_push env xs e) ∙ or_suc (place_in env xs) (same_env env e) (length xs)
    ]

some_suc : (o : Option ℕ) → is_some (option_map suc o) ≡ is_some o
some_suc None = refl
some_suc (Some k) = refl

is_some-place_in : (env : Pairs) (envs : List Pairs) → is_some (place_in env envs) ≡ list_any (same_env env) envs
is_some-place_in env [] = refl
is_some-place_in env (x ∷ xs) =
    elim (same_env env x) as (λ b. is_some (cond b (Some 0) (option_map suc (place_in env xs))) ≡ (b || list_any (same_env env) xs)) [
      | true ↦ refl
      | false ↦ some_suc (place_in env xs) ∙ is_some-place_in env xs
    ]

suc_some : (o : Option ℕ) (n : ℕ) → option_map suc o ≡ Some n → (k : ℕ) × ((o ≡ Some k) × (n ≡ suc k))
suc_some None n h = absurd cc
suc_some (Some k) n h = let e : suc k ≡ n = cc in (k, (refl, sym e))

shifted_at : (env x : Pairs) (xs : List Pairs) (o : Option ℕ) (n : ℕ) → option_map suc o ≡ Some n
    → ((k : ℕ) → o ≡ Some k → IsSomeAnd (slice_get xs k) (λ e. same_env env e ≡ true))
    → IsSomeAnd (slice_get (x ∷ xs) n) (λ e. same_env env e ≡ true)
shifted_at env x xs None n h rest = absurd cc
shifted_at env x xs (Some k) n h rest =
    let e : suc k ≡ n = cc in
    subst (λ (m : ℕ). IsSomeAnd (slice_get (x ∷ xs) m) (λ e. same_env env e ≡ true)) e (rest k refl)

-- the environment at the place is the same
pub place_in_at : (env : Pairs) (envs : List Pairs) (n : ℕ) → place_in env envs ≡ Some n
    → IsSomeAnd (slice_get envs n) (λ e. same_env env e ≡ true)
place_in_at env [] n h = absurd cc
place_in_at env (x ∷ xs) n h =
    elim (same_env env x) as (λ b. same_env env x ≡ b → cond b (Some 0) (option_map suc (place_in env xs)) ≡ Some n
    → IsSomeAnd (slice_get (x ∷ xs) n) (λ e. same_env env e ≡ true)) [
      | true ↦ λ t e. let z : 0 ≡ n = cc in subst (λ (m : ℕ). IsSomeAnd (slice_get (x ∷ xs) m) (λ e. same_env env e ≡ true)) z t
      | false ↦ λ t e. shifted_at env x xs (place_in env xs) n e (λ k. place_in_at env xs k)
    ] refl h

-- the index of the last one is the number of those before it
pub pushed_at : (env : Pairs) (envs : List Pairs) → IsSomeAnd (slice_get (envs ++ env ∷ []) (length envs)) (λ e. same_env env e ≡ true)
pushed_at env [] = same_env-refl env
pushed_at env (x ∷ xs) = pushed_at env xs

pub none_of : (o : Option ℕ) → ((k : ℕ) → o ≡ Some k → ⊥) → o ≡ None
none_of None h = refl
none_of (Some k) h = absurd (h k refl)

pub with_new_there : (env : Pairs) (envs : List Pairs) (n : ℕ) → place_in env envs ≡ Some n → with_new envs env ≡ envs
with_new_there env envs n h =
    ap (λ b. cond b envs (envs ++ env ∷ [])) (sym (is_some-place_in env envs) ∙ ap is_some h)

pub with_new_absent : (env : Pairs) (envs : List Pairs) → place_in env envs ≡ None → with_new envs env ≡ envs ++ env ∷ []
with_new_absent env envs h =
    ap (λ b. cond b envs (envs ++ env ∷ [])) (sym (is_some-place_in env envs) ∙ ap is_some h)

-- one more environment, at the end
pub are_places_push : (old new : List (Key × ℕ)) (envs : List Pairs) (env : Pairs) → ArePlaces old envs → place_in env envs ≡ None
    → ((q : Key) → lookup (λ k. is_eq (env_order q.env k.env)) new
    ≡ cond (is_eq (env_order env q.env)) (Some (length envs)) (lookup (λ k. is_eq (env_order q.env k.env)) old))
    → ArePlaces new (envs ++ env ∷ [])
are_places_push old new envs env are none put e =
    put (record { env = e }) ∙ ap (λ b. cond b (Some (length envs)) (lookup (λ k. is_eq (env_order e k.env)) old)) (is_eq-env_order env e ∙ same_env-sym env e)
    ∙ ap (λ (o : Option ℕ). cond (same_env e env) (Some (length envs)) o) (are e)
    ∙ elim (same_env e env) as (λ b. same_env e env ≡ b
    → cond b (Some (length envs)) (place_in e envs) ≡ option_or (place_in e envs) (cond b (Some (length envs)) None)) [
      | true ↦ λ t. ap (λ (o : Option ℕ). option_or o (Some (length envs))) (sym (place_in-like e env envs t ∙ none))
      | false ↦ λ t. sym (or_none (place_in e envs))
    ] refl
    ∙ sym (place_in_push e envs env)
