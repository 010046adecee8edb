-- Shares of environments, with and without the ids of tokens, and their places among the projections.
use Rattle.std.proofs.Common.{◌≡◌, ◌<◌, ◌+◌, ℕ, zero, suc, true, false, ◌&&◌, cond, Some, None, Option, refl, sym, ap, ◌∙◌}
use Rattle.std.proofs.Common.{subst, List, [], ◌∷◌, ◌++◌, length, get_or, take, map}
use Rattle.std.specs.Prelude.{option_map, slice_get, IsSomeAnd, MatchOption}
use Rattle.std.specs.List.{list_all, list_any, filter_map, cons_option, AllZip}
use Rattle.std.proofs.lemmas.List.{take_more, map-append, append-nil}
use Rattle.std.proofs.lemmas.Option.{slice_get-map}
use Rattle.smpl_terms.specs.declared.var.Var.{Var}
use Rattle.smpl_terms.specs.Environments.{has_value}
use Rattle.smpl_patch.specs.declared.rule.Dep.{Dep}
use Rattle.env_parts.specs.Parts.{Pairs, bare_env, restricted, same_env, with_new, distinct_after}
use Rattle.env_parts.proofs.PartLemmas.{has_value-bare, restricted-bare, same_env-bare}
use Rattle.rule_envs.specs.declared.file_env.FileEnv.{FileEnv}
use Rattle.rule_envs.specs.Depends.{judge}
use Rattle.rule_envs.specs.Shares.{bare_file_env, share, StandsAt}

has_all-bare : (env : Pairs) (vars : List Var) → list_all (has_value (bare_env env)) vars ≡ list_all (has_value env) vars
has_all-bare env [] = refl
has_all-bare env (x ∷ xs) = λ i. has_value-bare env x i && has_all-bare env xs i

-- a share doesn't depend on ids
pub share-bare : (defined : List (List ℕ)) (had : List ℕ) (depends : Dep) (inherited : List Var) (c : FileEnv)
    → share defined had depends inherited (bare_file_env c) ≡ option_map bare_env (share defined had depends inherited c)
share-bare defined had depends inherited c =
    (λ i. cond (judge c.rules had defined depends && has_all-bare c.env inherited i) (Some (restricted-bare inherited c.env i)) None)
    ∙ elim (judge c.rules had defined depends && list_all (has_value c.env) inherited) as
    (λ b. cond b (Some (bare_env (restricted inherited c.env))) None ≡ option_map bare_env (cond b (Some (restricted inherited c.env)) None)) [
      | true ↦ refl
      | false ↦ refl
    ]

-- ---- one more environment

abbrev pub Joins : List Pairs → List Pairs → Option Pairs → Option ℕ → Type 0
Joins envs now o place = MatchOption o ((now ≡ envs) × (place ≡ None)) (λ env.
    (now ≡ with_new envs env) × ((k : ℕ) × ((place ≡ Some k) × IsSomeAnd (slice_get now k) (λ e. same_env env e ≡ true))))

pub share_rest : (f : FileEnv → Option Pairs) (envs now : List Pairs) (o : Option Pairs) (place : Option ℕ) (c : FileEnv) (cs : List FileEnv)
    → o ≡ f c → Joins envs now o place → distinct_after now (filter_map f cs) ≡ distinct_after envs (filter_map f (c ∷ cs))
share_rest f envs now None place c cs is joins =
    ap (λ (x : List Pairs). distinct_after x (filter_map f cs)) joins.0
    ∙ ap (λ (o : Option Pairs). distinct_after envs (cons_option o (filter_map f cs))) is
share_rest f envs now (Some env) place c cs is joins =
    ap (λ (x : List Pairs). distinct_after x (filter_map f cs)) joins.0
    ∙ ap (λ (o : Option Pairs). distinct_after envs (cons_option o (filter_map f cs))) is

-- an element that is there keeps its place
slice_get-append : (xs ys : List Pairs) (k : ℕ) (x : Pairs) → slice_get xs k ≡ Some x → slice_get (xs ++ ys) k ≡ Some x
slice_get-append [] ys k x h = absurd cc
slice_get-append (z ∷ zs) ys zero x h = h
slice_get-append (z ∷ zs) ys (suc k) x h = slice_get-append zs ys k x h

stands_longer : (P more : List Pairs) (o : Option Pairs) (place : Option ℕ) → StandsAt P o place → StandsAt (P ++ more) o place
stands_longer P more None place h = h
stands_longer P more (Some env) place h = (h.0, (h.1.0, slice_get-append P more h.0 env h.1.1))

all_longer : (P more : List Pairs) (os : List (Option Pairs)) (places : List (Option ℕ))
    → AllZip (StandsAt P) os places → AllZip (StandsAt (P ++ more)) os places
all_longer P more [] [] h = tt
all_longer P more [] (p ∷ ps) h = absurd h
all_longer P more (o ∷ os) [] h = absurd h
all_longer P more (o ∷ os) (p ∷ ps) h = (stands_longer P more o p h.0, all_longer P more os ps h.1)

all_push : (P : List Pairs) (os : List (Option Pairs)) (places : List (Option ℕ)) (o : Option Pairs) (place : Option ℕ)
    → AllZip (StandsAt P) os places → StandsAt P o place → AllZip (StandsAt P) (os ++ o ∷ []) (places ++ place ∷ [])
all_push P [] [] o place h one = (one, tt)
all_push P [] (p ∷ ps) o place h one = absurd h
all_push P (x ∷ xs) [] o place h one = absurd h
all_push P (x ∷ xs) (p ∷ ps) o place h one = (h.0, all_push P xs ps o place h.1 one)

-- the list with an environment that is new is the list followed by some more
with_new_longer : (envs : List Pairs) (env : Pairs) → (more : List Pairs) × (with_new envs env ≡ envs ++ more)
with_new_longer envs env =
    elim (list_any (same_env env) envs) as (λ b. (more : List Pairs) × (cond b envs (envs ++ env ∷ []) ≡ envs ++ more)) [
      | true ↦ ([], sym (append-nil envs))
      | false ↦ (env ∷ [], refl)
    ]

all_new : (envs now : List Pairs) (env : Pairs) (os : List (Option Pairs)) (places : List (Option ℕ)) → now ≡ with_new envs env
    → AllZip (StandsAt (map bare_env envs)) os places → AllZip (StandsAt (map bare_env now)) os places
all_new envs now env os places is h =
    let longer = with_new_longer envs env in
    subst (λ (P : List Pairs). AllZip (StandsAt P) os places) (sym (ap (map bare_env) (is ∙ longer.1) ∙ map-append bare_env envs longer.0))
    (all_longer (map bare_env envs) (map bare_env longer.0) os places h)

bare_at : (o : Option Pairs) (env : Pairs) → IsSomeAnd o (λ e. same_env env e ≡ true) → option_map bare_env o ≡ Some (bare_env env)
bare_at None env h = absurd h
bare_at (Some e) env h = ap (λ (x : Pairs). Some x) (sym (same_env-bare env e h))

one_stands : (now : List Pairs) (env : Pairs) (place : Option ℕ) (k : ℕ) → place ≡ Some k
    → IsSomeAnd (slice_get now k) (λ e. same_env env e ≡ true) → StandsAt (map bare_env now) (Some (bare_env env)) place
one_stands now env place k is h = (k, (is, slice_get-map bare_env now k ∙ bare_at (slice_get now k) env h))

pub share_stands : (envs now : List Pairs) (o : Option Pairs) (place : Option ℕ) (os : List (Option Pairs)) (places : List (Option ℕ))
    → Joins envs now o place → AllZip (StandsAt (map bare_env envs)) os places
    → AllZip (StandsAt (map bare_env now)) (os ++ option_map bare_env o ∷ []) (places ++ place ∷ [])
share_stands envs now None place os places joins h =
    all_push (map bare_env now) os places None place
    (subst (λ (x : List Pairs). AllZip (StandsAt (map bare_env x)) os places) (sym joins.0) h) joins.1
share_stands envs now (Some env) place os places joins h =
    all_push (map bare_env now) os places (Some (bare_env env)) place (all_new envs now env os places joins.0 h)
    (one_stands now env place joins.1.0 joins.1.1.0 joins.1.1.1)

pub front_more : {A B : Type 0} (f : A → B) (g : A → A) (xs : List A) (i : ℕ) (x : A) → i < length xs → x ≡ get_or xs i x
    → map f (map g (take (i + 1) xs)) ≡ map f (map g (take i xs)) ++ f (g x) ∷ []
front_more f g xs i x lt is =
    ap (λ ys. map f (map g ys)) (take_more xs i x lt) ∙ ap (map f) (map-append g (take i xs) (get_or xs i x ∷ []))
    ∙ map-append f (map g (take i xs)) (g (get_or xs i x) ∷ []) ∙ ap (λ y. map f (map g (take i xs)) ++ f (g y) ∷ []) (sym is)
