-- The values of the binds of a forest are values of its world.
use Rattle.std.proofs.Common.{◌≡◌, ℕ, Bool, true, false, cond, sym, ap, subst, ◌∙◌, not, ◌&&◌, if◌then◌else◌, List, [], ◌∷◌, ◌++◌, map, Option, None, Some}
use Rattle.std.specs.Prelude.{slice_get}
use Rattle.std.specs.List.{filter, flat_map, list_any}
use Rattle.std.specs.declared.cmp.Ordering.{Ordering}
use Rattle.std.specs.declared.cmp.Ordering.TheVariants.{Less, Equal, Greater}
use Rattle.c_terms.specs.Trees.{join}
use Rattle.cfg_build.specs.CfgGraph.Flow.{succ_of, past_of, down_of}
use Rattle.smpl_terms.specs.declared.var.Var.{Var}
use Rattle.smpl_terms.specs.declared.value.Value.{Value}
use Rattle.smpl_terms.specs.Environments.{Environment, change}
use Rattle.smpl_patch.specs.declared.pattern.Pattern.{Pattern}
use Rattle.smpl_patch.specs.declared.pattern.VarDecl.{VarDecl}
use Rattle.smpl_patch.specs.declared.witness.Witness.{Witness}
use Rattle.smpl_patch.specs.declared.witness.Witness.TheVariants.{Touch, Bind, rolls-Touch, rolls-Bind}
use Rattle.smpl_patch.specs.declared.witness.Witness.TheFolds.{fold-roll-Witness}
use Rattle.ctl_formula.specs.Plain.{Plain, True, Atom, EarlyExit, BraceOpen, BraceClose, Inside, Outside, Not, And, Or, AX, EX, AU, EU, After, InBranch, Exists}
use Rattle.wit_forest.specs.WitOrder.Order.{witness_order}
use Rattle.wit_forest.specs.WitTrees.Unions.{placed, put, union, union_of}
use Rattle.wit_forest.specs.WitTrees.Forest.{World, is_hidden, reached, at_option, bound_to, forest}
use Rattle.text_laws.specs.OutputLaws.Values.{IsCValue, AreCValues}
use Rattle.text_laws.specs.Sound.{bind_step, bind_values}

-- ---- one tree

pub values-Touch : (node atom : ℕ) (path : List ℕ) → bind_values (Touch node atom path) ≡ []
values-Touch node atom path = ap bind_values (sym (rolls-Touch node atom path)) ∙ fold-roll-Witness (List Value) bind_step _

pub values-Bind : (node : ℕ) (x : Var) (v : Value) (under : List Witness) → bind_values (Bind node x v under) ≡ v ∷ join (map bind_values under)
values-Bind node x v under = ap bind_values (sym (rolls-Bind node x v under)) ∙ fold-roll-Witness (List Value) bind_step _

-- the values of its binds are places, or terms of tokens of C
abbrev pub HasBinds : Witness → Type 0
HasBinds w = AreCValues (bind_values w)

abbrev pub HaveBinds : List Witness → Type 0
HaveBinds [] = Unit {0}
HaveBinds (w ∷ ws) = HasBinds w × HaveBinds ws

pub values_both : (xs ys : List Value) → AreCValues xs → AreCValues ys → AreCValues (xs ++ ys)
values_both [] ys h k = k
values_both (x ∷ xs) ys h k = (h.0, values_both xs ys h.1 k)

pub joined_binds : (ws : List Witness) → HaveBinds ws → AreCValues (join (map bind_values ws))
joined_binds [] h = tt
joined_binds (w ∷ ws) h = values_both (bind_values w) (join (map bind_values ws)) h.0 (joined_binds ws h.1)

pub flat_binds : (ws : List Witness) → HaveBinds ws → AreCValues (flat_map bind_values ws)
flat_binds [] h = tt
flat_binds (w ∷ ws) h = values_both (bind_values w) (flat_map bind_values ws) h.0 (flat_binds ws h.1)

pub touch_binds : (node atom : ℕ) (path : List ℕ) → HasBinds (Touch node atom path)
touch_binds node atom path = subst AreCValues (sym (values-Touch node atom path)) tt

pub bind_binds : (node : ℕ) (x : Var) (v : Value) (ws : List Witness) → IsCValue v → HaveBinds ws → HasBinds (Bind node x v ws)
bind_binds node x v ws h k = subst AreCValues (sym (values-Bind node x v ws)) (h, joined_binds ws k)

-- ---- unions

module _ (decls : List VarDecl) where
  placed_b : (o : Ordering) (w u : Witness) (us more : List Witness) → HasBinds w → HasBinds u → HaveBinds us → HaveBinds more
      → HaveBinds (placed o w u us more)
  placed_b Less w u us more h k r m = (h, (k, r))
  placed_b Equal w u us more h k r m = (k, r)
  placed_b Greater w u us more h k r m = (k, m)

  put_b : (w : Witness) (us : List Witness) → HasBinds w → HaveBinds us → HaveBinds (put decls w us)
  put_b w [] h k = (h, tt)
  put_b w (u ∷ us) h k = placed_b (witness_order decls w u) w u us (put decls w us) h k.0 k.1 (put_b w us h k.1)

  union_b : (vs ws : List Witness) → HaveBinds vs → HaveBinds ws → HaveBinds (union decls vs ws)
  union_b [] ws h k = k
  union_b (v ∷ vs) ws h k = put_b v (union decls vs ws) h.0 (union_b vs ws h.1 k)

  unions_b : {A : Type 0} (f : A → List Witness) → ((a : A) → HaveBinds (f a)) → (xs : List A) → HaveBinds (union_of decls (map f xs))
  unions_b f g [] = tt
  unions_b f g (a ∷ xs) = union_b (f a) (union_of decls (map f xs)) (g a) (unions_b f g xs)

  values_b : (f : Value → List Witness) → ((v : Value) → IsCValue v → HaveBinds (f v)) → (vs : List Value) → AreCValues vs
      → HaveBinds (union_of decls (map f vs))
  values_b f g [] h = tt
  values_b f g (v ∷ vs) h = union_b (f v) (union_of decls (map f vs)) (g v h.0) (values_b f g vs h.1)

if_b : (b : Bool) (ws vs : List Witness) → HaveBinds ws → HaveBinds vs → HaveBinds (if b then ws else vs)
if_b true ws vs h k = h
if_b false ws vs h k = k

left_by : (b : Bool) (v : Value) (vs : List Value) → IsCValue v → AreCValues vs → AreCValues (cond b (v ∷ vs) vs)
left_by true v vs h k = (h, k)
left_by false v vs h k = k

left_c : (test : Value → Bool) (vs : List Value) → AreCValues vs → AreCValues (filter test vs)
left_c test [] h = tt
left_c test (v ∷ vs) h = left_by (test v) v (filter test vs) h.0 (left_c test vs h.1)

-- ---- forests

module _ (w : World) (values : AreCValues w.values) where
  bound_to_b : (b : Bool) (s : ℕ) (x : Var) (v : Value) (ws : List Witness) → IsCValue v → HaveBinds ws → HaveBinds (bound_to w b s x v ws)
  bound_to_b true s x v ws h k = k
  bound_to_b false s x v ws h k = (bind_binds s x v ws h k, tt)

  touched_b : (p : Pattern) (s : ℕ) (env : Environment) → HaveBinds (union_of w.decls (map (λ path. Touch s p.atom path ∷ []) (w.touches p s env)))
  touched_b p s env = unions_b w.decls (λ path. Touch s p.atom path ∷ []) (λ path. (touch_binds s p.atom path, tt)) (w.touches p s env)

  option_b : (f : ℕ → List Witness) → ((k : ℕ) → HaveBinds (f k)) → (o : Option ℕ) → HaveBinds (at_option w f o)
  option_b f g None = tt
  option_b f g (Some k) = g k

  pub forest_b : (f : Plain) (s : ℕ) (env : Environment) → HaveBinds (forest w f s env)
  forest_b True s env = tt
  forest_b (Atom p) s env = touched_b p s env
  forest_b EarlyExit s env = tt
  forest_b (BraceOpen p b) s env = touched_b p s env
  forest_b (BraceClose p b) s env = touched_b p s env
  forest_b (Inside b) s env = tt
  forest_b (Outside b) s env = tt
  forest_b (Not f) s env = tt
  forest_b (And f h) s env = union_b w.decls (forest w f s env) (forest w h s env) (forest_b f s env) (forest_b h s env)
  forest_b (Or f h) s env =
      union_b w.decls (if w.holds f s env then forest w f s env else []) (if w.holds h s env then forest w h s env else [])
      (if_b (w.holds f s env) (forest w f s env) [] (forest_b f s env) tt) (if_b (w.holds h s env) (forest w h s env) [] (forest_b h s env) tt)
  forest_b (AX f) s env = unions_b w.decls (λ k. forest w f k env) (λ k. forest_b f k env) (succ_of w.graph s)
  forest_b (EX f) s env =
      unions_b w.decls (λ k. if w.holds f k env then forest w f k env else [])
      (λ k. if_b (w.holds f k env) (forest w f k env) [] (forest_b f k env) tt) (succ_of w.graph s)
  forest_b (AU f h) s env =
      unions_b w.decls (λ n. if w.holds h n env then forest w h n env else forest w f n env)
      (λ n. if_b (w.holds h n env) (forest w h n env) (forest w f n env) (forest_b h n env) (forest_b f n env))
      (reached w.graph (λ n. w.holds f n env && not (w.holds h n env)) s)
  forest_b (EU f h) s env =
      unions_b w.decls (λ n. union w.decls (if w.holds h n env then forest w h n env else [])
      (if w.holds f n env && list_any (λ k. w.holds (EU f h) k env) (succ_of w.graph n) then forest w f n env else []))
      (λ n. union_b w.decls (if w.holds h n env then forest w h n env else [])
      (if w.holds f n env && list_any (λ k. w.holds (EU f h) k env) (succ_of w.graph n) then forest w f n env else [])
      (if_b (w.holds h n env) (forest w h n env) [] (forest_b h n env) tt)
      (if_b (w.holds f n env && list_any (λ k. w.holds (EU f h) k env) (succ_of w.graph n)) (forest w f n env) [] (forest_b f n env) tt))
      (reached w.graph (λ n. w.holds f n env) s)
  forest_b (After f) s env = option_b (λ k. forest w f k env) (λ k. forest_b f k env) (past_of w.graph s)
  forest_b (InBranch i f) s env = option_b (λ k. forest w f k env) (λ k. forest_b f k env) (slice_get (down_of w.graph s) i)
  forest_b (Exists x f) s env =
      values_b w.decls (λ v. bound_to w (is_hidden x) s x v (forest w f s (change env x v)))
      (λ v c. bound_to_b (is_hidden x) s x v (forest w f s (change env x v)) c (forest_b f s (change env x v)))
      (filter (λ v. w.holds f s (change env x v)) w.values) (left_c (λ v. w.holds f s (change env x v)) w.values values)
