-- What a rule is run under and the values that it exports, with and without the ids of tokens.
use Rattle.std.proofs.Common.{◌≡◌, Bool, true, false, ◌||◌, cond, Some, None, Option, refl, sym, ap, ◌∙◌, ℕ, List, [], ◌∷◌, ◌++◌, map}
use Rattle.std.specs.Prelude.{option_map}
use Rattle.std.specs.List.{list_any, filter_map, cons_option}
use Rattle.std.proofs.lemmas.List.{map_push}
use Rattle.smpl_terms.specs.declared.var.Var.{Var}
use Rattle.smpl_patch.specs.declared.rule.Dep.{Dep}
use Rattle.env_parts.specs.Parts.{Pairs, bare_env, restricted, same_env, with_new, distinct_after, distinct}
use Rattle.env_parts.proofs.PartLemmas.{restricted-bare, same_env-bare_both}
use Rattle.rule_envs.specs.declared.file_env.FileEnv.{FileEnv}
use Rattle.rule_envs.specs.Shares.{bare_file_env, share, projections}
use Rattle.rule_envs.specs.FileEnvs.{exported}
use Rattle.rule_envs.proofs.ShareLemmas.{share-bare}

seen-bare : (seen : List Pairs) (env : Pairs) → list_any (same_env (bare_env env)) (map bare_env seen) ≡ list_any (same_env env) seen
seen-bare [] env = refl
seen-bare (x ∷ xs) env = λ i. same_env-bare_both env x i || seen-bare xs env i

with_new-bare : (seen : List Pairs) (env : Pairs) → map bare_env (with_new seen env) ≡ with_new (map bare_env seen) (bare_env env)
with_new-bare seen env =
    elim (list_any (same_env env) seen) as (λ b. map bare_env (cond b seen (seen ++ env ∷ []))
    ≡ cond b (map bare_env seen) (map bare_env seen ++ bare_env env ∷ [])) [
      | true ↦ refl
      | false ↦ map_push bare_env seen env
    ]
    ∙ ap (λ (b : Bool). cond b (map bare_env seen) (map bare_env seen ++ bare_env env ∷ [])) (sym (seen-bare seen env))

distinct-bare : (seen envs : List Pairs) → map bare_env (distinct_after seen envs) ≡ distinct_after (map bare_env seen) (map bare_env envs)
distinct-bare seen [] = refl
distinct-bare seen (env ∷ envs) =
    distinct-bare (with_new seen env) envs ∙ ap (λ (x : List Pairs). distinct_after x (map bare_env envs)) (with_new-bare seen env)

cons-bare : (o : Option Pairs) (rest : List Pairs) → map bare_env (cons_option o rest) ≡ cons_option (option_map bare_env o) (map bare_env rest)
cons-bare None rest = refl
cons-bare (Some env) rest = refl

all_shares-bare : (defined : List (List ℕ)) (had : List ℕ) (depends : Dep) (inherited : List Var) (cs : List FileEnv)
    → map bare_env (filter_map (share defined had depends inherited) cs) ≡ filter_map (share defined had depends inherited) (map bare_file_env cs)
all_shares-bare defined had depends inherited [] = refl
all_shares-bare defined had depends inherited (c ∷ cs) =
    cons-bare (share defined had depends inherited c) (filter_map (share defined had depends inherited) cs)
    ∙ (λ i. cons_option (sym (share-bare defined had depends inherited c) i) (all_shares-bare defined had depends inherited cs i))

pub projections-bare : (defined : List (List ℕ)) (had : List ℕ) (depends : Dep) (inherited : List Var) (cs : List FileEnv)
    → map bare_env (projections defined had depends inherited cs) ≡ projections defined had depends inherited (map bare_file_env cs)
projections-bare defined had depends inherited cs =
    distinct-bare [] (filter_map (share defined had depends inherited) cs) ∙ ap distinct (all_shares-bare defined had depends inherited cs)

all_parts-bare : (exports : List Var) (envs : List Pairs) → map bare_env (map (restricted exports) envs) ≡ map (restricted exports) (map bare_env envs)
all_parts-bare exports [] = refl
all_parts-bare exports (env ∷ envs) = λ i. sym (restricted-bare exports env) i ∷ all_parts-bare exports envs i

pub exported-bare : (exports : List Var) (envs : List Pairs) → map bare_env (exported exports envs) ≡ exported exports (map bare_env envs)
exported-bare exports envs = distinct-bare [] (map (restricted exports) envs) ∙ ap distinct (all_parts-bare exports envs)
