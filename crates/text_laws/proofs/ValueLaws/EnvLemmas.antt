-- Environments whose values consist of tokens of C, when they are extended and restricted.
use Rattle.std.proofs.Common.{ℕ, zero, suc, Bool, true, false, cond, List, [], ◌∷◌, ◌++◌, take, drop}
use Rattle.std.specs.Prelude.{All}
use Rattle.std.specs.List.{flat_map, list_any}
use Rattle.std.specs.declared.cmp.Ordering.{Ordering}
use Rattle.std.specs.declared.cmp.Ordering.TheVariants.{Less, Equal, Greater}
use Rattle.std.proofs.lemmas.List.Elements.{All-nil, All-cons, All-head, All-tail, All-append, All-push}
use Rattle.smpl_terms.specs.declared.var.Var.{Var}
use Rattle.smpl_terms.specs.declared.value.Value.{Value}
use Rattle.smpl_terms.specs.Vars.{place_of, with_pair}
use Rattle.smpl_terms.specs.Values.{value_order}
use Rattle.smpl_terms.specs.Environments.{has_value}
use Rattle.env_parts.specs.Parts.{Pairs, is_among, restricted, same_env, adopted, joined, with_new, distinct_after, distinct}
use Rattle.wit_forest.specs.WitTrees.Rules.{value_placed, put_value, in_order, choices}
use Rattle.text_laws.specs.OutputLaws.Values.{IsCValue, AreCValues}
use Rattle.text_laws.specs.Sound.{HaveCValues}

-- ---- values in order

placed_c : (o : Ordering) (v u : Value) (us more : List Value) → IsCValue v → IsCValue u → AreCValues us → AreCValues more
    → AreCValues (value_placed o v u us more)
placed_c Less v u us more h k r m = (h, (k, r))
placed_c Equal v u us more h k r m = (k, r)
placed_c Greater v u us more h k r m = (k, m)

put_c : (v : Value) (us : List Value) → IsCValue v → AreCValues us → AreCValues (put_value v us)
put_c v [] h k = (h, tt)
put_c v (u ∷ us) h k = placed_c (value_order v u) v u us (put_value v us) h k.0 k.1 (put_c v us h k.1)

pub order_c : (vs : List Value) → AreCValues vs → AreCValues (in_order vs)
order_c [] h = tt
order_c (v ∷ vs) h = put_c v (in_order vs) h.0 (order_c vs h.1)

-- ---- one more pair

take_c : (n : ℕ) (env : Pairs) → HaveCValues env → HaveCValues (take n env)
take_c zero env h = tt
take_c (suc n) [] h = tt
take_c (suc n) (p ∷ env) h = (h.0, take_c n env h.1)

drop_c : (n : ℕ) (env : Pairs) → HaveCValues env → HaveCValues (drop n env)
drop_c zero env h = h
drop_c (suc n) [] h = tt
drop_c (suc n) (p ∷ env) h = drop_c n env h.1

both_c : (xs ys : Pairs) → HaveCValues xs → HaveCValues ys → HaveCValues (xs ++ ys)
both_c [] ys h k = k
both_c (p ∷ xs) ys h k = (h.0, both_c xs ys h.1 k)

with_c : (env : Pairs) (x : Var) (v : Value) → HaveCValues env → IsCValue v → HaveCValues (with_pair env x v)
with_c env x v h k =
    both_c (take (place_of x env) env) ((x, v) ∷ drop (place_of x env) env) (take_c (place_of x env) env h) (k, drop_c (place_of x env) env h)

-- ---- choices of values

over_values : (f : Value → List Pairs) → ((v : Value) → IsCValue v → All HaveCValues (f v)) → (vs : List Value) → AreCValues vs
    → All HaveCValues (flat_map f vs)
over_values f g [] h = All-nil HaveCValues
over_values f g (v ∷ vs) h = All-append HaveCValues (f v) (flat_map f vs) (g v h.0) (over_values f g vs h.1)

pub choices_c : (values : List Value) (xs : List Var) (env : Pairs) → AreCValues values → HaveCValues env → All HaveCValues (choices values xs env)
choices_c values [] env h k = All-cons HaveCValues env [] k (All-nil HaveCValues)
choices_c values (x ∷ xs) env h k =
    over_values (λ v. choices values xs (with_pair env x v)) (λ v c. choices_c values xs (with_pair env x v) h (with_c env x v k c)) values h

-- ---- parts of environments

kept_c : (b : Bool) (p : Var × Value) (env : Pairs) → IsCValue p.1 → HaveCValues env → HaveCValues (cond b (p ∷ env) env)
kept_c true p env h k = (h, k)
kept_c false p env h k = k

pub restricted_c : (vars : List Var) (env : Pairs) → HaveCValues env → HaveCValues (restricted vars env)
restricted_c vars [] h = tt
restricted_c vars (p ∷ env) h = kept_c (is_among vars p.0) p (restricted vars env) h.0 (restricted_c vars env h.1)

adopted_by : (b : Bool) (env : Pairs) (p : Var × Value) → HaveCValues env → IsCValue p.1 → HaveCValues (cond b env (with_pair env p.0 p.1))
adopted_by true env p h k = h
adopted_by false env p h k = with_c env p.0 p.1 h k

pub joined_c : (env part : Pairs) → HaveCValues env → HaveCValues part → HaveCValues (joined env part)
joined_c env [] h k = h
joined_c env (p ∷ part) h k = joined_c (adopted env p) part (adopted_by (has_value env p.0) env p h k.0) k.1

-- ---- each once

new_by : (b : Bool) (seen : List Pairs) (env : Pairs) → All HaveCValues seen → HaveCValues env → All HaveCValues (cond b seen (seen ++ env ∷ []))
new_by true seen env h k = h
new_by false seen env h k = All-push HaveCValues seen env h k

after_c : (seen envs : List Pairs) → All HaveCValues seen → All HaveCValues envs → All HaveCValues (distinct_after seen envs)
after_c seen [] h k = h
after_c seen (env ∷ envs) h k =
    after_c (with_new seen env) envs (new_by (list_any (same_env env) seen) seen env h (All-head HaveCValues env envs k)) (All-tail HaveCValues env envs k)

pub distinct_c : (envs : List Pairs) → All HaveCValues envs → All HaveCValues (distinct envs)
distinct_c envs h = after_c [] envs (All-nil HaveCValues) h
