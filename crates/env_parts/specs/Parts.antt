-- Parts of environments, environments without ids, and environments with more pairs.
use Rattle.std.specs.Prelude.{Bool, true, false, ◌&&◌, cond, List, [], ◌∷◌, ◌++◌, map}
use Rattle.std.specs.List.{filter, list_any}
use Rattle.std.specs.declared.cmp.Ordering.{Ordering}
use Rattle.std.specs.Ordering.{ordering_then}
use Rattle.std.specs.Cmp.Lexicographic.{slice_cmp}
use Rattle.c_terms.specs.Bare.{bare}
use Rattle.smpl_terms.specs.declared.var.Var.{Var}
use Rattle.smpl_terms.specs.declared.value.Value.{Value}
use Rattle.smpl_terms.specs.declared.value.Value.TheVariants.{Term, Place}
use Rattle.smpl_terms.specs.Vars.{same_var, var_order, with_pair}
use Rattle.smpl_terms.specs.Values.{same, value_order}
use Rattle.smpl_terms.specs.Environments.{has_value}

-- a finite environment, as contracts see it
abbrev pub Pairs : Type 0
Pairs = List (Var × Value)

abbrev pub is_among : List Var → Var → Bool
is_among vars x = list_any (λ y. same_var y x) vars

-- the pairs of these variables
abbrev pub restricted : List Var → Pairs → Pairs
restricted vars env = filter (λ p. is_among vars p.0) env

-- the same variables, with the same values
abbrev pub same_env : Pairs → Pairs → Bool
same_env [] [] = true
same_env [] (q ∷ qs) = false
same_env (p ∷ ps) [] = false
same_env (p ∷ ps) (q ∷ qs) = (same_var p.0 q.0 && same p.1 q.1) && same_env ps qs

-- a value as it is compared: a term without the ids of its tokens, or a place
abbrev pub bare_value : Value → Value
bare_value (Term t) = Term (bare t)
bare_value (Place p) = Place p

abbrev pub bare_pair : Var × Value → Var × Value
bare_pair p = (p.0, bare_value p.1)

abbrev pub bare_env : Pairs → Pairs
bare_env env = map bare_pair env

-- env with one more pair, unless it has a value of that variable
abbrev pub adopted : Pairs → Var × Value → Pairs
adopted env p = cond (has_value env p.0) env (with_pair env p.0 p.1)

-- env with those pairs whose variables it has no value of
abbrev pub joined : Pairs → Pairs → Pairs
joined env [] = env
joined env (p ∷ ps) = joined (adopted env p) ps

-- environments, each once, in the order in which they first appear: those seen so far, with this one appended unless it is
-- there
abbrev pub with_new : List Pairs → Pairs → List Pairs
with_new seen env = cond (list_any (same_env env) seen) seen (seen ++ env ∷ [])

abbrev pub distinct_after : List Pairs → List Pairs → List Pairs
distinct_after seen [] = seen
distinct_after seen (env ∷ envs) = distinct_after (with_new seen env) envs

abbrev pub distinct : List Pairs → List Pairs
distinct envs = distinct_after [] envs

-- by variable, then by value
abbrev pub pair_order : Var × Value → Var × Value → Ordering
pair_order p q = ordering_then (var_order p.0 q.0) (value_order p.1 q.1)

-- pair by pair, the first difference decides; a proper prefix is first
abbrev pub env_order : Pairs → Pairs → Ordering
env_order = slice_cmp pair_order
