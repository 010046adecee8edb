-- Environments that give metavariables only terms, when they are extended and restricted.
use Rattle.std.proofs.Common.{◌≡◌, Bool, true, false, ◌||◌, cond, refl, sym, ap, ◌∙◌, List, [], ◌∷◌, ◌++◌, Option, None, Some}
use Rattle.std.specs.Prelude.{All, is_some, option_map}
use Rattle.std.specs.List.{list_any}
use Rattle.std.proofs.lemmas.List.Elements.{All-nil, All-head, All-tail, All-push}
use Rattle.c_terms.specs.declared.tree.Tree.{Tree}
use Rattle.smpl_terms.specs.declared.var.Var.{Var}
use Rattle.smpl_terms.specs.declared.value.Value.{Value}
use Rattle.smpl_terms.specs.declared.value.Value.TheVariants.{Term, Place}
use Rattle.smpl_terms.specs.Vars.{same_var, place_of, with_pair}
use Rattle.smpl_terms.specs.Environments.{value_in, has_value}
use Rattle.smpl_terms.proofs.VarLaws.{same_var-refl, same_var-equal}
use Rattle.smpl_terms.proofs.EnvLemmas.{value_in-insert}
use Rattle.ctl_fixpoint.proofs.CtlHolds.TestLemmas.{or_left, not_both}
use Rattle.env_parts.specs.Parts.{Pairs, is_among, restricted, adopted, joined, same_env, with_new, distinct_after, distinct, bare_value, bare_env}
use Rattle.env_parts.proofs.PartLemmas.{value_in-bare}
use Rattle.insert_laws.specs.TermLaws.Terms.{is_term}
use Rattle.insert_laws.specs.TouchLaws.Metas.{GivesTerms}

-- ---- values

pub bare_term : (v : Value) → is_term (bare_value v) ≡ is_term v
bare_term (Term t) = refl
bare_term (Place p) = refl

pub some_equal : {A : Type 0} (a b : A) → Some a ≡ Some b → a ≡ b
some_equal a b e = cc

-- what has a value has one
pub value_there : (o : Option Value) → is_some o ≡ true → (v : Value) × (o ≡ Some v)
value_there None h = not_both false h refl
value_there (Some v) h = (v, refl)

pub no_value : (o : Option Value) → is_some o ≡ false → o ≡ None
no_value None h = refl
no_value (Some v) h = not_both true refl h

pub term_there : (v : Value) → is_term v ≡ true → (u : Tree) × (v ≡ Term u)
term_there (Term u) h = (u, refl)
term_there (Place p) h = not_both false h refl

-- ---- one more pair

pub value_in-with : (env : Pairs) (x : Var) (v : Value) (y : Var) → value_in env x ≡ None
    → value_in (with_pair env x v) y ≡ cond (same_var x y) (Some v) (value_in env y)
value_in-with env x v y none = value_in-insert env (place_of x env) x y v none

-- the old variables and the new one have a value
pub has-with : (env : Pairs) (x : Var) (v : Value) (y : Var) → value_in env x ≡ None
    → (has_value env y || same_var x y) ≡ true → has_value (with_pair env x v) y ≡ true
has-with env x v y none h = ap is_some (value_in-with env x v y none) ∙ by (same_var x y) h
  where
    by : (b : Bool) → (has_value env y || b) ≡ true → is_some (cond b (Some v) (value_in env y)) ≡ true
    by true h = refl
    by false h = or_nothing (has_value env y) h
      where
        or_nothing : (a : Bool) → (a || false) ≡ true → a ≡ true
        or_nothing true h = refl
        or_nothing false h = h

module _ (metas : Var → Bool) where
  abbrev Gives : Pairs → Type 0
  Gives env = GivesTerms metas env

  pub with_gives : (env : Pairs) (x : Var) (v : Value) → value_in env x ≡ None → Gives env → (metas x ≡ true → is_term v ≡ true)
      → Gives (with_pair env x v)
  with_gives env x v none g h y m w e = by (same_var x y) refl (sym (value_in-with env x v y none) ∙ e)
    where
      by : (b : Bool) → same_var x y ≡ b → cond b (Some v) (value_in env y) ≡ Some w → is_term w ≡ true
      by true s k =
          let same : v ≡ w = some_equal v w k in
          ap is_term (sym same) ∙ h (ap metas (same_var-equal x y s) ∙ m)
      by false s k = g y m w k

  pub bare_gives : (env : Pairs) → Gives env → Gives (bare_env env)
  bare_gives env g x m v e = by (value_in env x) refl (sym (value_in-bare env x) ∙ e)
    where
      by : (o : Option Value) → value_in env x ≡ o → option_map bare_value o ≡ Some v → is_term v ≡ true
      by None s k = absurd (cc)
      by (Some u) s k =
          let same : bare_value u ≡ v = some_equal (bare_value u) v k in
          ap is_term (sym same) ∙ bare_term u ∙ g x m u s

  -- ---- parts

  restricted_by : (vars : List Var) (p : Var × Value) (env : Pairs) (x : Var) (v : Value) (b c : Bool) → is_among vars p.0 ≡ b → same_var p.0 x ≡ c
      → (value_in (restricted vars env) x ≡ Some v → (is_among vars x ≡ true) × (value_in env x ≡ Some v))
      → value_in (cond b (p ∷ restricted vars env) (restricted vars env)) x ≡ Some v
      → (is_among vars x ≡ true) × (cond c (Some p.1) (value_in env x) ≡ Some v)
  restricted_by vars p env x v true true i s more k =
      (ap (is_among vars) (sym (same_var-equal p.0 x s)) ∙ i, ap (λ b. cond b (Some p.1) (value_in (restricted vars env) x)) (sym s) ∙ k)
  restricted_by vars p env x v true false i s more k = more (ap (λ b. cond b (Some p.1) (value_in (restricted vars env) x)) (sym s) ∙ k)
  restricted_by vars p env x v false true i s more k =
      let r = more k in
      not_both (is_among vars x) r.0 (ap (is_among vars) (sym (same_var-equal p.0 x s)) ∙ i)
  restricted_by vars p env x v false false i s more k = more k

  -- a value in a part is one of the whole, and its variable is one of the part's
  pub restricted-value : (vars : List Var) (env : Pairs) (x : Var) (v : Value) → value_in (restricted vars env) x ≡ Some v
      → (is_among vars x ≡ true) × (value_in env x ≡ Some v)
  restricted-value vars [] x v e = absurd (cc)
  restricted-value vars (p ∷ env) x v e =
      restricted_by vars p env x v (is_among vars p.0) (same_var p.0 x) refl refl (restricted-value vars env x v) e

  pub restricted_gives : (vars : List Var) (env : Pairs) → Gives env → Gives (restricted vars env)
  restricted_gives vars env g x m v e = g x m v (restricted-value vars env x v e).1

  has_by : (vars : List Var) (p : Var × Value) (env : Pairs) (x : Var) (b c : Bool) → is_among vars p.0 ≡ b → same_var p.0 x ≡ c
      → is_among vars x ≡ true → (has_value env x ≡ true → has_value (restricted vars env) x ≡ true)
      → is_some (cond c (Some p.1) (value_in env x)) ≡ true
      → has_value (cond b (p ∷ restricted vars env) (restricted vars env)) x ≡ true
  has_by vars p env x true true i s a more k = ap (λ b. is_some (cond b (Some p.1) (value_in (restricted vars env) x))) s
  has_by vars p env x true false i s a more k = ap (λ b. is_some (cond b (Some p.1) (value_in (restricted vars env) x))) s ∙ more k
  has_by vars p env x false true i s a more k = not_both (is_among vars x) a (ap (is_among vars) (sym (same_var-equal p.0 x s)) ∙ i)
  has_by vars p env x false false i s a more k = more k

  -- a variable of the part keeps its value
  pub restricted-has : (vars : List Var) (env : Pairs) (x : Var) → is_among vars x ≡ true → has_value env x ≡ true
      → has_value (restricted vars env) x ≡ true
  restricted-has vars [] x a h = h
  restricted-has vars (p ∷ env) x a h =
      has_by vars p env x (is_among vars p.0) (same_var p.0 x) refl refl a (restricted-has vars env x a) h

  -- ---- more pairs

  -- of the variables that the one has no value of, the other gives terms
  abbrev Adds : Pairs → Pairs → Type 0
  Adds env part = (x : Var) → metas x ≡ true → has_value env x ≡ false → (v : Value) → value_in part x ≡ Some v → is_term v ≡ true

  first_term : (env : Pairs) (p : Var × Value) (part : Pairs) → has_value env p.0 ≡ false → Adds env (p ∷ part) → metas p.0 ≡ true → is_term p.1 ≡ true
  first_term env p part n a m = a p.0 m n p.1 (ap (λ b. cond b (Some p.1) (value_in part p.0)) (same_var-refl p.0))

  adopted_gives : (env : Pairs) (p : Var × Value) (part : Pairs) (b : Bool) → has_value env p.0 ≡ b → Gives env → Adds env (p ∷ part)
      → Gives (cond b env (with_pair env p.0 p.1))
  adopted_gives env p part true n g a = g
  adopted_gives env p part false n g a = with_gives env p.0 p.1 (no_value (value_in env p.0) n) g (first_term env p part n a)

  -- what the environment with the pair lacks, it lacks without
  lacks_by : (env : Pairs) (p : Var × Value) (x : Var) (b : Bool) → has_value env p.0 ≡ b → has_value (cond b env (with_pair env p.0 p.1)) x ≡ false
      → (has_value env x ≡ false) × (same_var p.0 x ≡ false)
  lacks_by env p x true n h = (h, by (same_var p.0 x) refl)
    where
      by : (c : Bool) → same_var p.0 x ≡ c → c ≡ false
      by true s = not_both (has_value env x) (ap (has_value env) (sym (same_var-equal p.0 x s)) ∙ n) h
      by false s = refl
  lacks_by env p x false n h = by (has_value env x) (same_var p.0 x) refl refl
    where
      there : (has_value env x || same_var p.0 x) ≡ true → ⊥
      there k = not_both (has_value (with_pair env p.0 p.1) x) (has-with env p.0 p.1 x (no_value (value_in env p.0) n) k) h

      by : (c d : Bool) → has_value env x ≡ c → same_var p.0 x ≡ d → (c ≡ false) × (d ≡ false)
      by true d k s = absurd (there (or_left (has_value env x) (same_var p.0 x) k))
      by false true k s = absurd (there (ap (λ z. z || same_var p.0 x) k ∙ s))
      by false false k s = (refl, refl)

  adopted_adds : (env : Pairs) (p : Var × Value) (part : Pairs) → Adds env (p ∷ part) → Adds (adopted env p) part
  adopted_adds env p part a x m n v e =
      let l = lacks_by env p x (has_value env p.0) refl n in
      a x m l.0 v (ap (λ b. cond b (Some p.1) (value_in part x)) l.1 ∙ e)

  more_gives : (part env : Pairs) → Gives env → Adds env part → Gives (joined env part)
  more_gives [] env g a = g
  more_gives (p ∷ part) env g a =
      more_gives part (adopted env p) (adopted_gives env p part (has_value env p.0) refl g a) (adopted_adds env p part a)

  pub joined_gives : (env part : Pairs) → Gives env → Gives part → Gives (joined env part)
  joined_gives env part g h = more_gives part env g (λ x m n v e. h x m v e)

-- ---- each once

module _ (P : Pairs → Type 0) where
  new_by : (b : Bool) (seen : List Pairs) (env : Pairs) → All P seen → P env → All P (cond b seen (seen ++ env ∷ []))
  new_by true seen env h k = h
  new_by false seen env h k = All-push P seen env h k

  after_all : (seen envs : List Pairs) → All P seen → All P envs → All P (distinct_after seen envs)
  after_all seen [] h k = h
  after_all seen (env ∷ envs) h k =
      after_all (with_new seen env) envs (new_by (list_any (same_env env) seen) seen env h (All-head P env envs k)) (All-tail P env envs k)

  pub distinct_all : (envs : List Pairs) → All P envs → All P (distinct envs)
  distinct_all envs h = after_all [] envs (All-nil P) h
