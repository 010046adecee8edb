-- What a rule is run under, without the ids of terms: it gives no exported variable a value, and its places say what is found
-- there.
use Rattle.std.proofs.Common.{◌≡◌, ℕ, suc, refl, sym, ap, ◌∙◌, subst, Bool, true, false, cond, Option, None, Some, List, [], ◌∷◌, ◌++◌, map, length}
use Rattle.std.proofs.Math.Path.{subst₂}
use Rattle.std.proofs.lemmas.List.{length-map}
use Rattle.std.specs.Prelude.{All, unwrap_or}
use Rattle.std.specs.List.{filter_map, list_any, AllZip, cons_option}
use Rattle.std.proofs.lemmas.List.Elements.{All-nil, All-cons, All-head, All-tail, All-push}
use Rattle.smpl_terms.specs.declared.var.Var.{Var}
use Rattle.smpl_terms.specs.Vars.{same_var}
use Rattle.smpl_terms.specs.Environments.{value_in}
use Rattle.smpl_terms.proofs.VarLaws.{same_var-equal}
use Rattle.env_parts.specs.Parts.{Pairs, is_among, restricted, same_env, with_new, distinct_after, bare_env}
use Rattle.cpp_lines.specs.declared.reading.Item.{Item}
use Rattle.smpl_patch.specs.declared.rule.Dep.{Dep}
use Rattle.smpl_patch.specs.declared.rule.Rule.{Rule}
use Rattle.rule_envs.specs.declared.file_env.FileEnv.{FileEnv}
use Rattle.rule_envs.specs.Inherited.{inherited_of}
use Rattle.rule_envs.specs.Shares.{takes_part, share, projections, StandsAt, bare_file_env}
use Rattle.rule_envs.specs.FileEnvs.{AreBrought}
use Rattle.rule_envs.proofs.BareLemmas.{projections-bare}
use Rattle.rule_chain.specs.RuleWitnesses.Choices.{AreNew}
use Rattle.rule_envs.specs.declared.fault.EnvsFault.{EnvsFault}
use Rattle.rule_envs.specs.declared.fault.EnvsFault.TheVariants as envs_faults
use Rattle.rule_chain.specs.declared.rule_witnesses.fault.ItemFault.{ItemFault}
use Rattle.rule_chain.specs.declared.rule_witnesses.fault.ItemFault.TheVariants as job_faults
use Rattle.rule_chain.specs.FileWitnesses.Found.{brings}
use Rattle.rule_chain.specs.declared.rule_matches.fault.MatchFault.TheVariants.{TooManyWitnesses, TooManyEnvironments}
use Rattle.rule_chain.specs.RuleMatches.Matching.{AreApart, rule_share, rule_projections, job_fault, envs_fault}

-- a pair of another variable
other_var : (vars : List Var) (y x : Var) → is_among vars x ≡ false → is_among vars y ≡ true → same_var y x ≡ false
other_var vars y x out among = elim (same_var y x) as (λ b. same_var y x ≡ b → b ≡ false) [
  | true ↦ (λ h. let e : true ≡ false = sym among ∙ ap (is_among vars) (same_var-equal y x h) ∙ out in absurd cc)
  | false ↦ (λ h. refl)
] refl

no_value : (vars : List Var) (env : Pairs) (x : Var) → is_among vars x ≡ false → value_in (restricted vars env) x ≡ None
no_value vars [] x out = refl
no_value vars (p ∷ ps) x out =
    elim (is_among vars p.0) as (λ b. is_among vars p.0 ≡ b → value_in (cond b (p ∷ restricted vars ps) (restricted vars ps)) x ≡ None) [
      | true ↦ (λ h. ap (λ b. cond b (Some p.1) (value_in (restricted vars ps) x)) (other_var vars p.0 x out h) ∙ no_value vars ps x out)
      | false ↦ (λ h. no_value vars ps x out)
    ] refl

pub are_new : (exports inherited : List Var) → AreApart exports inherited → (env : Pairs) → AreNew exports (restricted inherited env)
are_new [] inherited apart env = tt
are_new (x ∷ xs) inherited apart env = (no_value inherited env x apart.0, apart.1, are_new xs inherited apart.2 env)

-- ---- everything that a rule is run under

module _ (P : Pairs → Type 0) where
  more_kept : (seen : List Pairs) (env : Pairs) → All P seen → P env → All P (with_new seen env)
  more_kept seen env h e =
      elim (list_any (same_env env) seen) as (λ b. All P (cond b seen (seen ++ env ∷ []))) [
        | true ↦ h
        | false ↦ All-push P seen env h e
      ]

  after_kept : (seen envs : List Pairs) → All P seen → All P envs → All P (distinct_after seen envs)
  after_kept seen [] h k = h
  after_kept seen (e ∷ es) h k = after_kept (with_new seen e) es (more_kept seen e h (All-head P e es k)) (All-tail P e es k)

  one_kept : (o : Option Pairs) (rest : List Pairs) → ((env : Pairs) → o ≡ Some env → P env) → All P rest → All P (cons_option o rest)
  one_kept None rest is h = h
  one_kept (Some env) rest is h = All-cons P env rest (is env refl) h

  shares_kept : (f : FileEnv → Option Pairs) → ((c : FileEnv) (env : Pairs) → f c ≡ Some env → P env)
      → (cs : List FileEnv) → All P (filter_map f cs)
  shares_kept f each [] = All-nil P
  shares_kept f each (c ∷ cs) = one_kept (f c) (filter_map f cs) (each c) (shares_kept f each cs)

share_is : (b : Bool) (part env : Pairs) → cond b (Some part) None ≡ Some env → part ≡ env
share_is true part env h = ap (λ (o : Option Pairs). unwrap_or o part) h
share_is false part env h = absurd cc

pub all_new : (defined : List (List ℕ)) (had : List ℕ) (depends : Dep) (inherited exports : List Var) → AreApart exports inherited → (cs : List FileEnv)
    → All (AreNew exports) (projections defined had depends inherited cs)
all_new defined had depends inherited exports apart cs =
    after_kept (AreNew exports) [] (filter_map (share defined had depends inherited) cs) (All-nil (AreNew exports))
    (shares_kept (AreNew exports) (share defined had depends inherited)
    (λ c env h. subst (AreNew exports) (share_is (takes_part defined had depends inherited c) (restricted inherited c.env) env h)
    (are_new exports inherited apart c.env)) cs)

-- ---- as many places as environments

same_length : (P : List Pairs) (os : List (Option Pairs)) (places : List (Option ℕ)) → AllZip (StandsAt P) os places → length places ≡ length os
same_length P [] [] h = refl
same_length P [] (p ∷ ps) h = absurd h
same_length P (o ∷ os) [] h = absurd h
same_length P (o ∷ os) (p ∷ ps) h = ap suc (same_length P os ps h.1)

-- ---- what `projections` gives, as it is passed on

module _ (defined : List (List ℕ)) (had : List ℕ) (number : ℕ) (rule : Rule) (items : List Item) (cs : List FileEnv)
    (inherited : List Var) (is_inherited : inherited ≡ inherited_of rule) (made envs : List Pairs) (same_envs : envs ≡ made)
    (is_made : made ≡ projections defined had rule.depends inherited cs) where
  pub run_under : map bare_env envs ≡ rule_projections defined had number rule items (map bare_file_env cs)
  run_under =
      ap (map bare_env) (same_envs ∙ is_made) ∙ projections-bare defined had rule.depends inherited cs
      ∙ ap (λ (vars : List Var). projections defined had rule.depends vars (map bare_file_env cs)) is_inherited

  pub under_new : AreApart rule.exports inherited → All (AreNew rule.exports) envs
  under_new apart =
      subst (All (AreNew rule.exports)) (sym (same_envs ∙ is_made)) (all_new defined had rule.depends inherited rule.exports apart cs)

  module _ (put places : List (Option ℕ)) (same_places : places ≡ put)
      (stand : AllZip (StandsAt (map bare_env made)) (map (share defined had rule.depends inherited) (map bare_file_env cs)) put) where
    pub places_of_all : length places ≡ length cs
    places_of_all =
        ap length same_places ∙ same_length (map bare_env made) (map (share defined had rule.depends inherited) (map bare_file_env cs)) put stand
        ∙ length-map (map bare_file_env cs) (share defined had rule.depends inherited) ∙ length-map cs bare_file_env

    pub are_brought : (parts found : List (List Pairs)) → parts ≡ found → map (map bare_env) found ≡ map (brings number rule items) (map bare_env envs)
        → AreBrought (rule_share defined had number rule items (map bare_file_env cs)) (brings number rule items) (map bare_file_env cs) places
        (map (map bare_env) parts)
    are_brought parts found same is = record {
      projections = map bare_env envs;
      shares = subst₂ (λ (es : List Pairs) ps.
          AllZip (StandsAt (map bare_env es)) (map (share defined had rule.depends (inherited_of rule)) (map bare_file_env cs)) ps)
          (sym same_envs) (sym same_places)
          (subst (λ (vars : List Var). AllZip (StandsAt (map bare_env made)) (map (share defined had rule.depends vars) (map bare_file_env cs)) put)
          is_inherited stand);
      brought = ap (map (map bare_env)) same ∙ is;
    }

-- ---- which fault is which

pub witnesses_told : (fault : ItemFault) → job_fault fault ≡ TooManyWitnesses → fault ≡ job_faults.TooMany
witnesses_told job_faults.TooMany h = refl
witnesses_told job_faults.NoMemory h = absurd cc

pub not_by_witnesses : (fault : ItemFault) → job_fault fault ≡ TooManyEnvironments → ⊥
not_by_witnesses job_faults.TooMany h = cc
not_by_witnesses job_faults.NoMemory h = cc

pub environments_told : (fault : EnvsFault) → envs_fault fault ≡ TooManyEnvironments → fault ≡ envs_faults.TooMany
environments_told envs_faults.TooMany h = refl
environments_told envs_faults.NoMemory h = absurd cc

pub not_by_environments : (fault : EnvsFault) → envs_fault fault ≡ TooManyWitnesses → ⊥
not_by_environments envs_faults.TooMany h = cc
not_by_environments envs_faults.NoMemory h = cc
