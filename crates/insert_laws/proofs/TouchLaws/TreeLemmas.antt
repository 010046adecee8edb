-- The touches of trees of witnesses without ids, and lists of trees that pass.
use Rattle.std.proofs.Common.{◌≡◌, ℕ, Bool, true, false, refl, sym, ap, ◌∙◌, if◌then◌else◌, List, [], ◌∷◌, ◌++◌, map}
use Rattle.std.specs.Prelude.{All}
use Rattle.std.specs.List.{flat_map}
use Rattle.std.specs.declared.cmp.Ordering.{Ordering}
use Rattle.std.specs.declared.cmp.Ordering.TheVariants.{Less, Equal, Greater}
use Rattle.std.proofs.lemmas.List.Elements.{All-nil, All-cons, All-head, All-tail, All-append}
use Rattle.smpl_terms.specs.declared.var.Var.{Var}
use Rattle.smpl_terms.specs.declared.value.Value.{Value}
use Rattle.smpl_patch.specs.declared.pattern.VarDecl.{VarDecl}
use Rattle.smpl_patch.specs.declared.witness.Witness.{Witness}
use Rattle.smpl_patch.specs.declared.witness.Witness.TheOpen.{Witness-F}
use Rattle.smpl_patch.specs.declared.witness.Witness.TheVariants.{Touch, Bind, rolls-Touch, rolls-Bind}
use Rattle.smpl_patch.specs.declared.witness.Witness.TheFolds.{fold-Witness, fold-roll-Witness}
use Rattle.wit_forest.specs.WitOrder.Order.{witness_order}
use Rattle.wit_forest.specs.WitTrees.Unions.{placed, put, union, union_of}
use Rattle.env_parts.specs.Parts.{bare_value}
use Rattle.rule_chain.specs.RuleWitnesses.Bare.{bare_tree, bare_step}
use Rattle.edit_marks.specs.EditWalk.Touches.{Values, Touched, bound, touch_step, touches_in}

-- ---- the touches of a tree

bare-Touch : (n a : ℕ) (p : List ℕ) → bare_tree (Touch n a p) ≡ Touch n a p
bare-Touch n a p = ap bare_tree (sym (rolls-Touch n a p)) ∙ fold-roll-Witness Witness bare_step _

bare-Bind : (n : ℕ) (x : Var) (v : Value) (ws : List Witness) → bare_tree (Bind n x v ws) ≡ Bind n x (bare_value v) (map bare_tree ws)
bare-Bind n x v ws = ap bare_tree (sym (rolls-Bind n x v ws)) ∙ fold-roll-Witness Witness bare_step _

abbrev walk : ℕ → Witness → Values → List Touched
walk item = fold-Witness (Values → List Touched) (touch_step item)

walk-Touch : (item n a : ℕ) (p : List ℕ) → walk item (Touch n a p) ≡ touch_step item (Witness-F.Touch n a p)
walk-Touch item n a p = ap (walk item) (sym (rolls-Touch n a p)) ∙ fold-roll-Witness (Values → List Touched) (touch_step item) _

walk-Bind : (item n : ℕ) (x : Var) (v : Value) (ws : List Witness)
    → walk item (Bind n x v ws) ≡ touch_step item (Witness-F.Bind n x v (map (walk item) ws))
walk-Bind item n x v ws = ap (walk item) (sym (rolls-Bind n x v ws)) ∙ fold-roll-Witness (Values → List Touched) (touch_step item) _

pub touches-Touch : (item : ℕ) (env : Values) (n a : ℕ) (p : List ℕ)
    → touches_in item env (bare_tree (Touch n a p)) ≡ record { item = item; node = n; atom = a; path = p; env = env } ∷ []
touches-Touch item env n a p =
    ap (λ (w : Witness). walk item w env) (bare-Touch n a p) ∙ ap (λ (f : Values → List Touched). f env) (walk-Touch item n a p)

-- each touch of each of the trees passes
pub flat_touches : (P : Touched → Type 0) (item : ℕ) (env : Values) (ws : List Witness)
    → All (λ w. All P (touches_in item env (bare_tree w))) ws → All P (flat_map (touches_in item env) (map bare_tree ws))
flat_touches P item env [] h = All-nil P
flat_touches P item env (w ∷ ws) h =
    All-append P (touches_in item env (bare_tree w)) (flat_map (touches_in item env) (map bare_tree ws))
    (All-head (λ w. All P (touches_in item env (bare_tree w))) w ws h)
    (flat_touches P item env ws (All-tail (λ w. All P (touches_in item env (bare_tree w))) w ws h))

pub touches-Bind : (item : ℕ) (env : Values) (n : ℕ) (x : Var) (v : Value) (ws : List Witness)
    → touches_in item env (bare_tree (Bind n x v ws)) ≡ flat_map (touches_in item (bound env x (bare_value v))) (map bare_tree ws)
touches-Bind item env n x v ws =
    ap (λ (w : Witness). walk item w env) (bare-Bind n x v ws)
    ∙ ap (λ (f : Values → List Touched). f env) (walk-Bind item n x (bare_value v) (map bare_tree ws))
    ∙ apart (bound env x (bare_value v)) (map bare_tree ws)
  where
    apart : (e : Values) (us : List Witness) → flat_map (λ (f : Values → List Touched). f e) (map (walk item) us) ≡ flat_map (touches_in item e) us
    apart e [] = refl
    apart e (u ∷ us) = ap (λ (ts : List Touched). touches_in item e u ++ ts) (apart e us)

-- ---- lists of trees

module _ (P : Witness → Type 0) where
  abbrev pub Have : List Witness → Type 0
  Have [] = Unit {0}
  Have (w ∷ ws) = P w × Have ws

  pub have_all : (ws : List Witness) → Have ws → All P ws
  have_all [] h = All-nil P
  have_all (w ∷ ws) h = All-cons P w ws h.0 (have_all ws h.1)

  pub if_h : (b : Bool) (ws vs : List Witness) → Have ws → Have vs → Have (if b then ws else vs)
  if_h true ws vs h k = h
  if_h false ws vs h k = k

  module _ (decls : List VarDecl) where
    placed_h : (o : Ordering) (w u : Witness) (us more : List Witness) → P w → P u → Have us → Have more → Have (placed o w u us more)
    placed_h Less w u us more h k r m = (h, (k, r))
    placed_h Equal w u us more h k r m = (k, r)
    placed_h Greater w u us more h k r m = (k, m)

    put_h : (w : Witness) (us : List Witness) → P w → Have us → Have (put decls w us)
    put_h w [] h k = (h, tt)
    put_h w (u ∷ us) h k = placed_h (witness_order decls w u) w u us (put decls w us) h k.0 k.1 (put_h w us h k.1)

    pub union_h : (vs ws : List Witness) → Have vs → Have ws → Have (union decls vs ws)
    union_h [] ws h k = k
    union_h (v ∷ vs) ws h k = put_h v (union decls vs ws) h.0 (union_h vs ws h.1 k)

    -- of things that are such
    pub unions_of : {A : Type 0} (Q : A → Type 0) (f : A → List Witness) → ((a : A) → Q a → Have (f a)) → (xs : List A) → All Q xs
        → Have (union_of decls (map f xs))
    unions_of Q f g [] h = tt
    unions_of Q f g (a ∷ xs) h =
        union_h (f a) (union_of decls (map f xs)) (g a (All-head Q a xs h)) (unions_of Q f g xs (All-tail Q a xs h))
