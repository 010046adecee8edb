-- Where an atom matches, each of its sure variables has a value of the graph.
use Rattle.std.proofs.Common.{◌≡◌, ℕ, suc, zero, ◌<◌, Bool, true, false, ◌&&◌, ◌||◌, not, refl, sym, ap, ◌∙◌, subst, List, []}
use Rattle.std.proofs.Common.{◌∷◌, ◌++◌, map, length, Option, None, Some, slice_get, ◌⊎◌, ⊎_elim, Contains, if◌then◌else◌}
use Rattle.std.specs.List.{list_any, list_all}
use Rattle.std.proofs.lemmas.List.Folds.{list_any-append}
use Rattle.std.proofs.lemmas.List.Elements.{Contains-append_left, Contains-append_right}
use Rattle.c_terms.specs.declared.label.Label.{Label}
use Rattle.c_terms.specs.declared.token.Token.{Token}
use Rattle.c_terms.specs.declared.token.TokenKind.{TokenKind}
use Rattle.c_terms.specs.declared.token.TokenKind.TheVariants as token_kind
use Rattle.c_terms.specs.declared.tree.Tree.{Tree, out-Tree}
use Rattle.c_terms.specs.declared.tree.Tree.TheVariants.{Leaf, Branch}
use Rattle.c_terms.specs.Trees.{join, leaves}
use Rattle.c_terms.specs.Places.{Place as Spot_in, below, part_at, parts, parts_from}
use Rattle.c_terms.specs.Shapes.{is_expression_part}
use Rattle.c_terms.proofs.Induct.{Each, tree_induction, tree_cases}
use Rattle.c_terms.proofs.PlaceLaws.{child_known, parts-Leaf, parts-Branch}
use Rattle.c_terms.proofs.SameLemmas.{out-Leaf, out-Branch}
use Rattle.c_terms.proofs.TreeLemmas.{leaves-Leaf, leaves-Branch}
use Rattle.c_types.specs.Tables.{ItemTypes}
use Rattle.smpl_terms.specs.declared.var.Var.{Var}
use Rattle.smpl_terms.specs.declared.value.Value.{Value}
use Rattle.smpl_terms.specs.declared.value.Value.TheVariants.{Term, Place}
use Rattle.smpl_terms.specs.Values.{same}
use Rattle.smpl_terms.specs.Vars.{same_var}
use Rattle.smpl_terms.specs.Environments.{Environment}
use Rattle.smpl_terms.proofs.VarLaws.{same_var-equal}
use Rattle.cfg_build.specs.declared.cfg_graph.label.NodeKind.{NodeKind}
use Rattle.cfg_build.specs.declared.cfg_graph.label.NodeLabel.{NodeLabel}
use Rattle.cfg_build.specs.CfgGraph.Flow.{Flow}
use Rattle.cfg_build.specs.CfgGraph.Own.{is_own as is_node_own}
use Rattle.cfg_build.specs.CfgGraph.Values.{terms_in, terms_of, places_of}
use Rattle.cfg_build.proofs.CfgGraph.ValueLemmas.{in-join, label-place}
use Rattle.cfg_build.proofs.CfgGraph.PartLemmas.{token-place}
use Rattle.smpl_patch.specs.declared.pattern.VarDecl.{VarDecl}
use Rattle.smpl_patch.specs.declared.pattern.PatToken.{PatToken}
use Rattle.smpl_patch.specs.declared.pattern.Pattern.{Pattern}
use Rattle.smpl_patch.specs.declared.pattern.Spot.{Spot}
use Rattle.smpl_patch.specs.declared.pattern.Spot.TheVariants as spot
use Rattle.smpl_patch.specs.Held.{is_split_into_nodes, is_held, kept, held_at, held}
use Rattle.smpl_patch.specs.Patterns.{declared_as, is_var_of, is_meta_of, is_position_of, is_own, held_sure, in_first, sure}
use Rattle.smpl_patch.specs.Patterns.{stands}
use Rattle.pat_match.specs.Spots.{seats, parts_of_child, own_parts_from, own_parts, fits_at}
use Rattle.pat_match.specs.Matching.{var_passes, positions_pass, meta_passes, token_passes, keeps, is_live, is_live_in}
use Rattle.pat_match.specs.declared.role.NodeRole.{NodeRole}
use Rattle.pat_match.specs.Roles.{role_of}
use Rattle.pat_match.specs.Matching.{fits_seat, matches}
use Rattle.pat_match.specs.Valued.{has_value}
use Rattle.pat_match.proofs.ValueLemmas.{has-kid}
use Rattle.pat_match.proofs.HeldLaw.{held_has_value}
use Rattle.pat_match.proofs.InsideLemmas.{kids_parts, any-child}
use Rattle.ctl_fixpoint.specs.CtlHolds.Values.{values_of, is_among}
use Rattle.ctl_fixpoint.specs.CtlHolds.Holding.{passes_label, at_node, is_open, is_close, is_brace, open_after, in_block, atom_at, brace_at}
use Rattle.ctl_fixpoint.specs.CtlHolds.BoundLaw.{SureStand}
use Rattle.ctl_fixpoint.proofs.CtlHolds.TestLemmas.{or_cases, or_left, or_right, and_left, and_right, not_both, Contains-map, any_found}
use Rattle.ctl_fixpoint.proofs.CtlHolds.TestLemmas.{any_has, all_has, any_weaker}

-- the values of a label's tree are values of the graph

among-term : (g : Flow) (u : Tree) (v : Value) → Contains (terms_of g) u → same (Term u) v ≡ true
    → is_among (values_of g) v ≡ true
among-term g u v c h =
    any_has (λ w. same w v) (Term u) (values_of g)
    (Contains-append_left (map Term (terms_of g)) (map Place (places_of g)) (Term u)
    (Contains-map Term u (terms_of g) c.0 c.1 c.2))
    h

pub among-place : (g : Flow) (i : ℕ) (v : Value) → Contains (places_of g) i → same (Place i) v ≡ true
    → is_among (values_of g) v ≡ true
among-place g i v c h =
    any_has (λ w. same w v) (Place i) (values_of g)
    (Contains-append_right (map Term (terms_of g)) (map Place (places_of g)) (Place i)
    (Contains-map Place i (places_of g) c.0 c.1 c.2))
    h

among-label : (g : Flow) (n : ℕ) (l : NodeLabel) (v : Value) → slice_get g.labels n ≡ Some l → has_value l.tree v ≡ true
    → is_among (values_of g) v ≡ true
among-label g n l v e h = ⊎_elim
    (λ a.
    let u = any_found (λ (u : Tree). same (Term u) v) (terms_in l.tree) a in
    among-term g u.0 v (in-join (λ (l : NodeLabel). terms_in l.tree) g.labels n l u.0 e u.1) u.2)
    (λ b.
    let a = any_found (λ (a : Token). same (Place a.id) v) (leaves l.tree) b in
    among-place g a.0.id v (token-place g n l a.0 e a.1) a.2)
    (or_cases (list_any (λ u. same (Term u) v) (terms_in l.tree)) (list_any (λ (a : Token). same (Place a.id) v) (leaves l.tree)) h)

-- a value of a subtree that a form is compared with is a value of the tree

module _ (v : Value) where
  abbrev here : Spot_in → Bool
  here s = has_value s.tree v

  abbrev InParts : Tree → Type 0
  InParts t = list_any here (parts is_expression_part t) ≡ true → has_value t v ≡ true

  child-value : (l : Label) (i : ℕ) (c : Tree) → InParts c → list_any here (parts_of_child l i c) ≡ true
      → has_value c v ≡ true
  child-value l i c h e = ⊎_elim
      (λ a. and_right (is_expression_part l i c) (has_value c v) a)
      (λ b. h b)
      (or_cases (is_expression_part l i c && has_value c v) (list_any here (parts is_expression_part c))
      (sym (any-child (λ t. has_value t v) l i c) ∙ e))

  kids-value : (l : Label) (i : ℕ) (cs : List Tree) → Each InParts cs → list_any here (kids_parts l i cs) ≡ true
      → list_any (λ c. has_value c v) cs ≡ true
  kids-value l i [] e h = absurd (cc)
  kids-value l i (c ∷ cs) e h = ⊎_elim
      (λ a. or_left _ _ (child-value l i c e.0 a))
      (λ b. or_right _ _ (kids-value l (suc i) cs e.1 b))
      (or_cases (list_any here (parts_of_child l i c)) (list_any here (kids_parts l (suc i) cs))
      (sym (list_any-append here (parts_of_child l i c) (kids_parts l (suc i) cs)) ∙ h))

  parts-value : (t : Tree) → InParts t
  parts-value = tree_induction InParts
      (λ a h. not_both false (sym (ap (list_any here) (parts-Leaf is_expression_part a)) ∙ h) refl)
      (λ l cs e h. has-kid l cs v (kids-value l 0 cs e (sym (ap (list_any here) (parts-Branch is_expression_part l cs)) ∙ h)))

  own-child : (b : Bool) (l : Label) (i : ℕ) (c : Tree) → list_any here (if b then parts_of_child l i c else []) ≡ true
      → has_value c v ≡ true
  own-child true l i c h = child-value l i c (parts-value c) h
  own-child false l i c h = absurd (cc)

  own-value : (test : ℕ → Bool) (l : Label) (i : ℕ) (cs : List Tree) → list_any here (own_parts_from test l i cs) ≡ true
      → list_any (λ c. has_value c v) cs ≡ true
  own-value test l i [] h = absurd (cc)
  own-value test l i (c ∷ cs) h = ⊎_elim
      (λ a. or_left _ _ (own-child (test i) l i c a))
      (λ b. or_right _ _ (own-value test l (suc i) cs b))
      (or_cases (list_any here (if test i then parts_of_child l i c else [])) (list_any here (own_parts_from test l (suc i) cs))
      (sym (list_any-append here (if test i then parts_of_child l i c else []) (own_parts_from test l (suc i) cs)) ∙ h))

  inside-value : (k : NodeKind) (t : Tree) → list_any here (own_parts k (out-Tree t)) ≡ true → has_value t v ≡ true
  inside-value k = tree_cases (λ t. list_any here (own_parts k (out-Tree t)) ≡ true → has_value t v ≡ true)
      (λ a h. not_both false (sym (ap (λ y. list_any here (own_parts k y)) (out-Leaf a)) ∙ h) refl)
      (λ l cs h. has-kid l cs v
      (own-value (is_node_own k l (length cs)) l 0 cs (sym (ap (λ y. list_any here (own_parts k y)) (out-Branch l cs)) ∙ h)))

  seat-value : (s : Spot) (k : NodeKind) (t : Tree) → list_any here (seats s k t) ≡ true → has_value t v ≡ true
  seat-value spot.Inside k t h = inside-value k t h
  seat-value spot.Whole k t h = ⊎_elim (λ a. a) (λ b. not_both false b refl) (or_cases (has_value t v) false h)
  seat-value spot.Tail k t h = ⊎_elim (λ a. a) (λ b. not_both false b refl) (or_cases (has_value t v) false h)

-- a variable that occurs in what is compared of a form is at one of the form's tokens

pub kept_step : (q : Tree → Bool) (test : ℕ → Bool) (i : ℕ) (c : Tree) (cs : List Tree) (b : Bool)
    → (list_any q (kept test (suc i) cs) ≡ true → list_any q cs ≡ true)
    → list_any q (if b then c ∷ kept test (suc i) cs else kept test (suc i) cs) ≡ true → list_any q (c ∷ cs) ≡ true
kept_step q test i c cs true r h = ⊎_elim (λ a. or_left _ _ a) (λ a. or_right _ _ (r a)) (or_cases (q c) _ h)
kept_step q test i c cs false r h = or_right (q c) _ (r h)

pub any_kept : (q : Tree → Bool) (test : ℕ → Bool) (i : ℕ) (cs : List Tree) → list_any q (kept test i cs) ≡ true
    → list_any q cs ≡ true
any_kept q test i [] h = h
any_kept q test i (c ∷ cs) h = kept_step q test i c cs (test i) (any_kept q test (suc i) cs) h

pub any_joined : (q : Token → Bool) (cs : List Tree) → list_any (λ c. list_any q (leaves c)) cs ≡ true
    → list_any q (join (map leaves cs)) ≡ true
any_joined q [] h = h
any_joined q (c ∷ cs) h =
    list_any-append q (leaves c) (join (map leaves cs))
    ∙ ⊎_elim
    (λ a. or_left (list_any q (leaves c)) _ a)
    (λ b. or_right (list_any q (leaves c)) _ (any_joined q cs b))
    (or_cases (list_any q (leaves c)) _ h)

pub or_nothing : (a : Bool) → (a || false) ≡ true → a ≡ true
or_nothing true h = refl
or_nothing false h = h

pub held_branch : (q : Token → Bool) (s : Spot) (l : Label) (cs : List Tree) (b : Bool)
    → list_any (λ t. list_any q (leaves t)) (if b then kept (is_held s l (length cs)) 0 cs else Branch l cs ∷ []) ≡ true
    → list_any q (leaves (Branch l cs)) ≡ true
held_branch q s l cs true h =
    ap (list_any q) (leaves-Branch l cs)
    ∙ any_joined q cs (any_kept (λ t. list_any q (leaves t)) (is_held s l (length cs)) 0 cs h)
held_branch q s l cs false h = or_nothing _ h

pub held_leaves : (q : Token → Bool) (s : Spot) (form : Tree) → list_any (λ t. list_any q (leaves t)) (held s form) ≡ true
    → list_any q (leaves form) ≡ true
held_leaves q s = tree_cases
    (λ form. list_any (λ t. list_any q (leaves t)) (held s form) ≡ true → list_any q (leaves form) ≡ true)
    (λ a h. or_nothing _ (sym (ap (λ y. list_any (λ t. list_any q (leaves t)) (held_at s y (Leaf a))) (out-Leaf a)) ∙ h))
    (λ l cs h. held_branch q s l cs (is_split_into_nodes s l)
    (sym (ap (λ y. list_any (λ t. list_any q (leaves t)) (held_at s y (Branch l cs))) (out-Branch l cs)) ∙ h))

-- and so it is sure in the other forms that match

pub all_any : (q : Var → Bool) (x : Var) (ys : List Var) → list_all q ys ≡ true → list_any (λ y. same_var y x) ys ≡ true
    → q x ≡ true
all_any q x ys h k =
    let y = any_found (λ y. same_var y x) ys k in
    subst (λ z. q z ≡ true) (same_var-equal y.0 x y.2) (all_has q y.0 ys y.1 h)

pub var_at : (q : Var → Bool) (x : Var) (o : Option VarDecl) → var_passes q o ≡ true → is_var_of o x ≡ true → q x ≡ true
var_at q x None h k = absurd (cc)
var_at q x (Some d) h k = subst (λ z. q z ≡ true) (same_var-equal d.var x k) h

pub position_at : (q : Var → Bool) (x : Var) (o : Option PatToken) → positions_pass q o ≡ true → is_position_of o x ≡ true
    → q x ≡ true
position_at q x None h k = absurd (cc)
position_at q x (Some p) h k = all_any q x p.positions h k

pub meta_at : (decls : List VarDecl) (q : Var → Bool) (x : Var) (k : TokenKind) (a : Token) → meta_passes decls q k a ≡ true
    → is_meta_of decls a k x ≡ true → q x ≡ true
meta_at decls q x (token_kind.Meta k) a h e = var_at q x (declared_as decls a.text) h e
meta_at decls q x _ a h e = absurd (cc)

pub kept_sure : (a b : Bool) → a ≡ true → (not a || b) ≡ true → b ≡ true
kept_sure true b e h = h
kept_sure false b e h = absurd (cc)

module _ (decls : List VarDecl) (tokens : List PatToken) (types : ItemTypes) (env : Environment) (x : Var) where
  token_at : (q : Var → Bool) (a : Token) → token_passes decls tokens q a ≡ true → is_own decls tokens x a ≡ true → q x ≡ true
  token_at q a h e = ⊎_elim
      (λ m. meta_at decls q x a.kind a (and_left _ _ h) m)
      (λ p. position_at q x (slice_get tokens a.id) (and_right _ _ h) p)
      (or_cases (is_meta_of decls a a.kind x) (is_position_of (slice_get tokens a.id) x) e)

  live_form : (s : Spot) (first form : Tree) → held_sure decls tokens s x first ≡ true
      → list_any (λ t. list_any (is_own decls tokens x) (leaves t)) (held s first) ≡ true
      → is_live decls tokens s first form ≡ true → held_sure decls tokens s x form ≡ true
  live_form s first form e h l =
      let a = any_found (is_own decls tokens x) (leaves first) (held_leaves (is_own decls tokens x) s first h) in
      kept_sure _ _ e
      (token_at (keeps decls tokens s first form) a.0
      (all_has (token_passes decls tokens (keeps decls tokens s first form)) a.0 (leaves first) a.1 l) a.2)

  first_form : (s : Spot) (form : Tree) (fs : List Tree) → in_first (held_sure decls tokens s x) fs ≡ true
      → in_first (λ f. list_any (λ t. list_any (is_own decls tokens x) (leaves t)) (held s f)) fs ≡ true
      → in_first (λ first. is_live decls tokens s first form) fs ≡ true → held_sure decls tokens s x form ≡ true
  first_form s form [] e h l = absurd (cc)
  first_form s form (first ∷ fs) e h l = live_form s first form e h l

  seat_law : (p : Pattern) (r : NodeRole) (form t : Tree) → sure decls tokens p x ≡ true → SureStand decls tokens p
      → fits_seat decls tokens types env p r form t ≡ true → has_value t (env x) ≡ true
  seat_law p r form t e stand h =
      held_has_value decls tokens types env x p.spot r.kind form t (and_right _ _ h)
      (first_form p.spot form p.forms e (stand x e) (and_left _ _ (and_left _ _ h)))

  match_law : (p : Pattern) (l : NodeLabel) → sure decls tokens p x ≡ true → SureStand decls tokens p
      → matches decls tokens types env p l ≡ true → has_value l.tree (env x) ≡ true
  match_law p l e stand h =
      let f = any_found
      (λ f. list_any (λ (s : Spot_in). fits_seat decls tokens types env p (role_of l) f s.tree) (seats p.spot l.kind l.tree)) p.forms h in
      seat-value (env x) p.spot l.kind l.tree
      (any_weaker (λ (s : Spot_in). fits_seat decls tokens types env p (role_of l) f.0 s.tree) (here (env x)) (seats p.spot l.kind l.tree)
      (λ s c w. seat_law p (role_of l) f.0 s.tree e stand w) f.2)

-- a test that passes at a node passes at its label
pub label_of : (g : Flow) (s : ℕ) (test : NodeLabel → Bool) (o : Option NodeLabel) → slice_get g.labels s ≡ o
    → passes_label test o ≡ true → (l : NodeLabel) × (slice_get g.labels s ≡ Some l) × (test l ≡ true)
label_of g s test None e h = absurd (cc)
label_of g s test (Some l) e h = (l, e, h)

module _ (decls : List VarDecl) (tokens : List PatToken) (g : Flow) (p : Pattern) (stand : SureStand decls tokens p) (s : ℕ)
    (env : Environment) (x : Var) where
  pub atom-among : sure decls tokens p x ≡ true → atom_at decls tokens g p s env ≡ true
      → is_among (values_of g) (env x) ≡ true
  atom-among e h =
      let l = label_of g s (λ l. matches decls tokens g.types env p l) (slice_get g.labels s) refl h in
      among-label g s l.0 (env x) l.1 (match_law decls tokens g.types env x p l.0 e stand l.2)

  pub brace-among : (is : NodeKind → Bool) (b : Var) → (sure decls tokens p x || same_var b x) ≡ true
      → brace_at decls tokens g is p b s env ≡ true → is_among (values_of g) (env x) ≡ true
  brace-among is b e h =
      let l = label_of g s (λ l. is l.kind && same (Place l.brace) (env b) && matches decls tokens g.types env p l)
      (slice_get g.labels s) refl h in
      ⊎_elim
      (λ a. among-label g s l.0 (env x) l.1 (match_law decls tokens g.types env x p l.0 a stand (and_right _ _ l.2)))
      (λ a. subst (λ (z : Var). is_among (values_of g) (env z) ≡ true) (same_var-equal b x a)
      (among-place g l.0.brace (env b) (label-place g s l.0 l.1) (and_right _ _ (and_left _ _ l.2))))
      (or_cases (sure decls tokens p x) (same_var b x) e)

-- the place of an open block is one of the graph's values
module _ (g : Flow) (v : Value) where
  open-among : (n : ℕ) → open_after g v n ≡ true → is_among (values_of g) v ≡ true
  open-among zero h = not_both false h refl
  open-among (suc n) h =
      let l = label_of g n (λ l. is_brace is_open v l || (not (is_brace is_close v l) && open_after g v n))
      (slice_get g.labels n) refl h in
      ⊎_elim
      (λ a. among-place g l.0.brace v (label-place g n l.0 l.1) (and_right _ _ a))
      (λ b. open-among n (and_right (not (is_brace is_close v l.0)) (open_after g v n) b))
      (or_cases (is_brace is_open v l.0) _ l.2)

pub block-among : (g : Flow) (s : ℕ) (env : Environment) (x b : Var) → same_var b x ≡ true
    → in_block g (env b) s ≡ true → is_among (values_of g) (env x) ≡ true
block-among g s env x b e h =
    subst (λ (z : Var). is_among (values_of g) (env z) ≡ true) (same_var-equal b x e) (open-among g (env b) (suc s) h)
