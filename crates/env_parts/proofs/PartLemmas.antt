-- Parts of environments, with and without ids.
use Rattle.std.proofs.Common.{◌≡◌, ◌≢◌, ℕ, Bool, true, false, ◌&&◌, cond, Some, None, Option, refl, sym, ap, ◌∙◌, arith, List, [], ◌∷◌, length, map}
use Rattle.std.specs.Prelude.{is_some, option_map, suc, zero}
use Rattle.std.specs.List.{insert}
use Rattle.std.specs.Ordering.{is_lt}
use Rattle.std.proofs.lemmas.Grind.{common_steps}
use Rattle.c_terms.specs.Bare.{bare}
use Rattle.c_terms.specs.declared.tree.Tree.{Tree}
use Rattle.c_terms.specs.declared.tree.Tree.TheVariants.{Branch}
use Rattle.c_terms.proofs.BareLaws.{same-bare, bare-same, bare-Leaf, bare-Branch}
use Rattle.c_terms.proofs.Induct.{Each, tree_induction}
use Rattle.smpl_terms.specs.declared.var.Var.{Var}
use Rattle.smpl_terms.specs.declared.value.Value.{Value}
use Rattle.smpl_terms.specs.declared.value.Value.TheVariants.{Term, Place}
use Rattle.smpl_terms.specs.Vars.{same_var, var_order, place_of, with_pair}
use Rattle.smpl_terms.specs.Values.{same}
use Rattle.smpl_terms.specs.Environments.{value_in, has_value}
use Rattle.env_parts.specs.Parts.{Pairs, is_among, restricted, same_env, bare_value, bare_pair, bare_env, adopted, joined}
use Rattle.smpl_terms.proofs.VarLaws.{same_var-equal, same_var-refl}
use Rattle.smpl_terms.proofs.ValueLaws.{same-refl}

pub same_env-length : (a b : Pairs) → length a ≢ length b → same_env a b ≡ false
same_env-length [] [] n = absurd (n refl)
same_env-length [] (q ∷ qs) n = refl
same_env-length (p ∷ ps) [] n = refl
same_env-length (p ∷ ps) (q ∷ qs) n = let rest : same_env ps qs ≡ false = same_env-length ps qs (λ e. n (omega arith)) in grind (arith, common_steps)

-- same values are equal without ids
pub same-bare_value : (v w : Value) → same v w ≡ true → bare_value v ≡ bare_value w
same-bare_value (Term a) (Term b) h = ap Term (same-bare a b h)
same-bare_value (Term a) (Place q) h = absurd cc
same-bare_value (Place p) (Term b) h = absurd cc
same-bare_value (Place p) (Place q) h = let e : p ≡ q = grind (arith, common_steps) in ap Place e

pub bare_value-same : (v w : Value) → bare_value v ≡ bare_value w → same v w ≡ true
bare_value-same (Term a) (Term b) h = let e : bare a ≡ bare b = cc in bare-same a b e
bare_value-same (Term a) (Place q) h = absurd cc
bare_value-same (Place p) (Term b) h = absurd cc
bare_value-same (Place p) (Place q) h = let e : p ≡ q = cc in grind (arith, common_steps)

pub same_env-bare : (a b : Pairs) → same_env a b ≡ true → bare_env a ≡ bare_env b
same_env-bare [] [] h = refl
same_env-bare [] (q ∷ qs) h = absurd cc
same_env-bare (p ∷ ps) [] h = absurd cc
same_env-bare (p ∷ ps) (q ∷ qs) h =
    let x : same_var p.0 q.0 ≡ true = grind (arith, common_steps) in
    let v : same p.1 q.1 ≡ true = grind (arith, common_steps) in
    let rest : same_env ps qs ≡ true = grind (arith, common_steps) in
    let a = same_var-equal p.0 q.0 x in let b = same-bare_value p.1 q.1 v in let r = same_env-bare ps qs rest in
    λ i. (a i, b i) ∷ r i

-- what doesn't depend on ids is the same without them
pub value_in-bare : (env : Pairs) (x : Var) → value_in (bare_env env) x ≡ option_map bare_value (value_in env x)
value_in-bare [] x = refl
value_in-bare (p ∷ ps) x =
    elim (same_var p.0 x) as (λ b. cond b (Some (bare_value p.1)) (value_in (bare_env ps) x) ≡ option_map bare_value (cond b (Some p.1) (value_in ps x))) [
      | true ↦ refl
      | false ↦ value_in-bare ps x
    ]

some_map : (o : Option Value) → is_some (option_map bare_value o) ≡ is_some o
some_map None = refl
some_map (Some v) = refl

pub has_value-bare : (env : Pairs) (x : Var) → has_value (bare_env env) x ≡ has_value env x
has_value-bare env x = ap is_some (value_in-bare env x) ∙ some_map (value_in env x)

pub restricted-bare : (vars : List Var) (env : Pairs) → restricted vars (bare_env env) ≡ bare_env (restricted vars env)
restricted-bare vars [] = refl
restricted-bare vars (p ∷ ps) =
    elim (is_among vars p.0) as (λ b. cond b (bare_pair p ∷ restricted vars (bare_env ps)) (restricted vars (bare_env ps))
    ≡ bare_env (cond b (p ∷ restricted vars ps) (restricted vars ps))) [
      | true ↦ ap (λ (r : Pairs). bare_pair p ∷ r) (restricted-bare vars ps)
      | false ↦ restricted-bare vars ps
    ]

place_of-bare : (x : Var) (env : Pairs) → place_of x (bare_env env) ≡ place_of x env
place_of-bare x [] = refl
place_of-bare x (p ∷ ps) = ap (λ (n : ℕ). cond (is_lt (var_order p.0 x)) (suc n) 0) (place_of-bare x ps)

insert-bare : (env : Pairs) (n : ℕ) (p : Var × Value) → insert (bare_env env) n (bare_pair p) ≡ bare_env (insert env n p)
insert-bare [] zero p = refl
insert-bare [] (suc n) p = refl
insert-bare (q ∷ qs) zero p = refl
insert-bare (q ∷ qs) (suc n) p = ap (λ (r : Pairs). bare_pair q ∷ r) (insert-bare qs n p)

adopted-bare : (env : Pairs) (p : Var × Value) → adopted (bare_env env) (bare_pair p) ≡ bare_env (adopted env p)
adopted-bare env p =
    ap (λ (b : Bool). cond b (bare_env env) (with_pair (bare_env env) p.0 (bare_value p.1))) (has_value-bare env p.0)
    ∙ elim (has_value env p.0) as (λ b. cond b (bare_env env) (with_pair (bare_env env) p.0 (bare_value p.1)) ≡ bare_env (cond b env (with_pair env p.0 p.1))) [
      | true ↦ refl
      | false ↦ ap (λ (n : ℕ). insert (bare_env env) n (bare_pair p)) (place_of-bare p.0 env) ∙ insert-bare env (place_of p.0 env) p
    ]

pub joined-bare : (env more : Pairs) → joined (bare_env env) (bare_env more) ≡ bare_env (joined env more)
joined-bare env [] = refl
joined-bare env (p ∷ ps) = ap (λ (e : Pairs). joined e (bare_env ps)) (adopted-bare env p) ∙ joined-bare (adopted env p) ps

bool_same : (a b : Bool) → (a ≡ true → b ≡ true) → (b ≡ true → a ≡ true) → a ≡ b
bool_same true b f g = sym (f refl)
bool_same false true f g = g refl
bool_same false false f g = refl

-- leaving ids out once more changes nothing
abbrev Settled : Tree → Type 0
Settled t = bare (bare t) ≡ bare t

settled_all : (cs : List Tree) → Each Settled cs → map bare (map bare cs) ≡ map bare cs
settled_all [] e = refl
settled_all (c ∷ cs) e = let a = e.0 in let r = settled_all cs e.1 in λ i. a i ∷ r i

bare-bare : (t : Tree) → bare (bare t) ≡ bare t
bare-bare = tree_induction Settled
    (λ a. ap bare (bare-Leaf a) ∙ bare-Leaf (record a { id = 0 }) ∙ sym (bare-Leaf a))
    (λ l cs e. ap bare (bare-Branch l cs) ∙ bare-Branch l (map bare cs) ∙ ap (Branch l) (settled_all cs e) ∙ sym (bare-Branch l cs))

bare_twice : (v : Value) → bare_value (bare_value v) ≡ bare_value v
bare_twice (Term t) = ap Term (bare-bare t)
bare_twice (Place p) = refl

same-bare_both : (v w : Value) → same (bare_value v) (bare_value w) ≡ same v w
same-bare_both v w = bool_same _ _
    (λ h. bare_value-same v w (sym (bare_twice v) ∙ same-bare_value (bare_value v) (bare_value w) h ∙ bare_twice w))
    (λ h. bare_value-same (bare_value v) (bare_value w) (bare_twice v ∙ same-bare_value v w h ∙ sym (bare_twice w)))

pub same_env-bare_both : (a b : Pairs) → same_env (bare_env a) (bare_env b) ≡ same_env a b
same_env-bare_both [] [] = refl
same_env-bare_both [] (q ∷ qs) = refl
same_env-bare_both (p ∷ ps) [] = refl
same_env-bare_both (p ∷ ps) (q ∷ qs) =
    (λ i. (same_var p.0 q.0 && same-bare_both p.1 q.1 i) && same_env-bare_both ps qs i)

pub same_env-refl : (a : Pairs) → same_env a a ≡ true
same_env-refl [] = refl
same_env-refl (p ∷ ps) =
    let x = same_var-refl p.0 in let v = same-refl p.1 in let r = same_env-refl ps in
    ap (λ (b : Bool). (b && same p.1 p.1) && same_env ps ps) x ∙ ap (λ (b : Bool). b && same_env ps ps) v ∙ r
