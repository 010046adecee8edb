-- The plus code at the pattern tokens of a touch is used in the pattern of the touched atom.
use Rattle.std.proofs.Common.{◌≡◌, ℕ, zero, suc, ◌+◌, ◌<◌, ◌^◌, Bool, true, false, not, ◌&&◌, ◌||◌, cond, eqb, refl, sym, ap, ◌∙◌, subst, arith}
use Rattle.std.proofs.Common.{⊎_elim, List, [], ◌∷◌, ◌++◌, map, length, get_or, Option, None, Some, slice_get, Contains, if◌then◌else◌}
use Rattle.std.specs.Prelude.{All, option_and_then, nat_lt, nat_eq, take}
use Rattle.std.specs.Option.{option_map}
use Rattle.std.specs.List.{list_any, flat_map, filter_map, position_from}
use Rattle.std.proofs.lemmas.Bool.Decides.{nat_tests}
use Rattle.std.proofs.lemmas.Bool.{eqb-true}
use Rattle.std.proofs.lemmas.List.{append-nil}
use Rattle.std.proofs.lemmas.List.Elements.{All-nil, All-cons, All-head, All-tail, All-append, All-contains}
use Rattle.c_terms.specs.declared.token.Token.{Token}
use Rattle.c_terms.specs.declared.tree.Tree.{Tree}
use Rattle.c_terms.specs.Trees.{leaves}
use Rattle.c_terms.specs.Places.{Place, subtree}
use Rattle.cpp_lines.specs.declared.reading.Item.{Item}
use Rattle.cpp_lines.specs.declared.reading.Item.TheVariants.{Parsed, Skipped}
use Rattle.c_types.specs.Tables.{ItemTypes}
use Rattle.c_file.specs.Fit.{item_graph}
use Rattle.c_file.specs.ItemGraphs.Trees.{item_tree}
use Rattle.c_file.specs.ItemGraphs.Typed.{scope_of, typed_tree, graph_in}
use Rattle.c_file.proofs.ItemGraphs.GraphLemmas.{graph_there}
use Rattle.cfg_build.specs.declared.cfg_graph.label.NodeKind.{NodeKind}
use Rattle.cfg_build.specs.declared.cfg_graph.label.NodeKind.TheVariants as kind
use Rattle.cfg_build.specs.declared.cfg_graph.label.NodeLabel.{NodeLabel}
use Rattle.cfg_build.specs.CfgGraph.Flow.{Flow}
use Rattle.cfg_build.specs.Graphs.{graph_of}
use Rattle.smpl_terms.specs.declared.var.Var.{Var}
use Rattle.smpl_terms.specs.Environments.{Environment, total}
use Rattle.smpl_patch.specs.declared.pattern.VarDecl.{VarDecl}
use Rattle.smpl_patch.specs.declared.pattern.PatToken.{PatToken}
use Rattle.smpl_patch.specs.declared.pattern.Pattern.{Pattern}
use Rattle.smpl_patch.specs.declared.rule.Rule.{Rule}
use Rattle.smpl_patch.specs.declared.pattern.Spot.{Spot}
use Rattle.smpl_patch.specs.declared.pattern.Spot.TheVariants as spot
use Rattle.smpl_patch.specs.Held.{held}
use Rattle.smpl_patch.specs.Patterns.{in_first, is_own, in_plus, used_in, used}
use Rattle.smpl_patch.specs.Sound.{none_alike}
use Rattle.smpl_patch.specs.Wants.{ask_types}
use Rattle.pat_match.specs.Spots.{seats, fits_at, alignment_at}
use Rattle.pat_match.specs.Runs.{Pair}
use Rattle.pat_match.specs.Roles.{role_at, may_stand}
use Rattle.pat_match.specs.declared.role.NodeRole.{NodeRole}
use Rattle.pat_match.specs.Matching.{is_live_in, fits_seat}
use Rattle.pat_match.specs.declared.pat_pairs.pairs.AlignedToken.{AlignedToken}
use Rattle.pat_match.specs.PatPairs.Pairs.{aligned_token, numbers, first_aligned, aligned_tokens}
use Rattle.ctl_fixpoint.proofs.CtlHolds.TestLemmas.{or_cases, or_left, or_right, and_left, and_right, not_both, not_true}
use Rattle.edit_marks.specs.declared.edit_walk.nodes.ItemNodes.{ItemNodes}
use Rattle.edit_marks.specs.declared.removals.Aligned.{Aligned}
use Rattle.edit_marks.specs.EditWalk.Keys.{number_of}
use Rattle.edit_marks.specs.EditWalk.Touches.{Touched}
use Rattle.edit_marks.specs.EditWalk.Named.{pattern_of, part_of, tree_at, numbered, pairs_of, pairs_at}
use Rattle.edit_marks.specs.EditWalk.Nodes.{kind_at, types_at}
use Rattle.rule_chain.specs.RuleEdits.Nodes.{graph_nodes, nodes_of}
use Rattle.rule_chain.specs.FileWitnesses.Seen.{seen_graph, seen_graphs}
use Rattle.insert_laws.specs.AlignedLaws.Compared.{compared, IsCompared, is_head_tree, HasNoBodies}
use Rattle.insert_laws.specs.TouchLaws.Metas.{StandsAt}

some_equal : {A : Type 0} (a b : A) → Some a ≡ Some b → a ≡ b
some_equal a b e = cc

-- ---- the pattern of a number

abbrev alike : Pattern → Pattern → Bool
alike p q = nat_eq p.atom q.atom

-- what is found has the number, and is one of the patterns
record IsNamed (ps : List Pattern) (atom : ℕ) (p : Pattern) : Type 0 where
  among : Contains ps p
  number : p.atom ≡ atom

contains-later : (q : Pattern) (ps : List Pattern) (p : Pattern) → Contains ps p → Contains (q ∷ ps) p
contains-later q ps p c = (suc c.0, omega (arith, c.1), c.2)

contains-here : (p : Pattern) (ps : List Pattern) → Contains (p ∷ ps) p
contains-here p ps = (zero, omega arith, refl)

-- the numbers from the first on, by how far it has come
named_from : (ps : List Pattern) (atom i : ℕ) (p : Pattern) (more : List Pattern)
    → ((k : ℕ) → slice_get more (i + k) ≡ slice_get ps k)
    → option_and_then (slice_get more) (position_from (λ k. eqb k atom) i (map (λ (p : Pattern). p.atom) ps)) ≡ Some p → IsNamed ps atom p
named_from [] atom i p more same e = absurd (cc)
named_from (q ∷ ps) atom i p more same e =
    let next : (k : ℕ) → slice_get more (i + 1 + k) ≡ slice_get ps k =
    λ k. let n : i + 1 + k ≡ i + suc k = omega arith in ap (slice_get more) n ∙ same (suc k) in
    by (eqb q.atom atom) refl (λ r. named_from ps atom (i + 1) p more next r) e
  where
    by : (b : Bool) → eqb q.atom atom ≡ b
        → (option_and_then (slice_get more) (position_from (λ k. eqb k atom) (i + 1) (map (λ (p : Pattern). p.atom) ps)) ≡ Some p → IsNamed ps atom p)
        → option_and_then (slice_get more) (cond b (Some i) (position_from (λ k. eqb k atom) (i + 1) (map (λ (p : Pattern). p.atom) ps))) ≡ Some p
        → IsNamed (q ∷ ps) atom p
    by true t rest e =
        let n : i ≡ i + 0 = omega arith in
        let is : q ≡ p = some_equal q p (sym (ap (slice_get more) n ∙ same 0) ∙ e) in
        record { among = subst (Contains (q ∷ ps)) is (contains-here q ps); number = ap (λ (r : Pattern). r.atom) (sym is) ∙ eqb-true q.atom atom t }
    by false t rest e =
        let r = rest e in
        record { among = contains-later q ps p r.among; number = r.number }

named : (ps : List Pattern) (atom : ℕ) (p : Pattern) → pattern_of ps atom ≡ Some p → IsNamed ps atom p
named ps atom p e = named_from ps atom 0 p ps (λ k. let n : 0 + k ≡ k = omega arith in ap (slice_get ps) n) e

-- of different numbers only one pattern has a number
number_alike : (p q : Pattern) → p.atom ≡ q.atom → alike p q ≡ true
number_alike p q e = grind (arith, nat_tests, e)

among_alike : (p : Pattern) (ps : List Pattern) (q : Pattern) → Contains ps q → p.atom ≡ q.atom → list_any (alike p) ps ≡ true
among_alike p [] q c e = absurd (omega (arith, c.1))
among_alike p (r ∷ ps) q c e = by c.0 c.1 c.2 (λ d. among_alike p ps q d e)
  where
    by : (i : ℕ) → i < suc (length ps) → get_or (r ∷ ps) i q ≡ q → (Contains ps q → list_any (alike p) ps ≡ true)
        → list_any (alike p) (r ∷ ps) ≡ true
    by zero lt g more = or_left (alike p r) (list_any (alike p) ps) (number_alike p r (e ∙ ap (λ (x : Pattern). x.atom) (sym g)))
    by (suc i) lt g more = or_right (alike p r) (list_any (alike p) ps) (more (i, omega (arith, lt), g))

one_pattern : (ps : List Pattern) → none_alike alike ps ≡ true → (p q : Pattern) → Contains ps p → Contains ps q → p.atom ≡ q.atom → p ≡ q
one_pattern [] n p q c d e = absurd (omega (arith, c.1))
one_pattern (r ∷ ps) n p q c d e =
    by c.0 c.1 c.2 d.0 d.1 d.2 (λ a b. one_pattern ps (and_right (not (list_any (alike r) ps)) (none_alike alike ps) n) p q a b e)
  where
    lone : (s : Pattern) → Contains ps s → r.atom ≡ s.atom → ⊥
    lone s c e =
        not_both (list_any (alike r) ps) (among_alike r ps s c e)
        (not_true (list_any (alike r) ps) (and_left (not (list_any (alike r) ps)) (none_alike alike ps) n))

    by : (i : ℕ) → i < suc (length ps) → get_or (r ∷ ps) i p ≡ p → (j : ℕ) → j < suc (length ps) → get_or (r ∷ ps) j q ≡ q
        → (Contains ps p → Contains ps q → p ≡ q) → p ≡ q
    by zero lt g zero le h more = sym g ∙ h
    by zero lt g (suc j) le h more = absurd (lone q (j, omega (arith, le), h) (ap (λ (x : Pattern). x.atom) g ∙ e))
    by (suc i) lt g zero le h more = absurd (lone p (i, omega (arith, lt), g) (ap (λ (x : Pattern). x.atom) h ∙ sym e))
    by (suc i) lt g (suc j) le h more = more (i, omega (arith, lt), g) (j, omega (arith, le), h)

-- ---- the node and the subtree that a touch names

get_map : {A B : Type 0} (f : A → B) (xs : List A) (n : ℕ) (x : A) → slice_get xs n ≡ Some x → slice_get (map f xs) n ≡ Some (f x)
get_map f [] n x e = absurd (cc)
get_map f (y ∷ xs) zero x e = let same : y ≡ x = cc in ap (λ (z : _). Some (f z)) same
get_map f (y ∷ xs) (suc n) x e = get_map f xs n x e

abbrev pub PathLaw : Type 0
PathLaw = (t : Tree) (n : ℕ) (l : NodeLabel) → slice_get (graph_of t).labels n ≡ Some l → (l.kind ≡ kind.ExitNode → ⊥)
    → subtree t l.path ≡ Some l.tree

abbrev pub BareLaw : Type 0
BareLaw = (t : Tree) (n : ℕ) (l : NodeLabel) → slice_get (graph_of t).labels n ≡ Some l → l.kind ≡ kind.Simple → is_head_tree l.tree ≡ false

module _ (path_law : PathLaw) (bare_law : BareLaw) (rule : Rule) (items : List Item) (p : Pattern) (t : Touched) (at : StandsAt rule items p t) where
  -- the graph that the rule sees is at its place among those of all items
  kind_known : (item : Item) → slice_get items t.item ≡ Some item → seen_graph rule items t.item ≡ Some at.graph
      → kind_at (nodes_of rule items) t.item t.node ≡ Some at.label.kind
  kind_known item e g =
      ap (option_and_then (λ (own : ItemNodes). slice_get own.kinds t.node))
      (get_map graph_nodes (seen_graphs rule items) t.item (Some at.graph)
      (graph_there (ask_types rule.vars) items t.item item e ∙ ap (λ (o : Option Flow). Some o) g))
      ∙ get_map (λ (n : NodeLabel). n.kind) at.graph.labels t.node at.label at.label_is

  whole_seat : (s : Spot) → p.spot ≡ s → s ≡ spot.Whole → t.path ≡ at.label.path
  whole_seat s e w =
      let seat : Contains (seats spot.Whole at.label.kind at.label.tree) at.seat =
      subst (λ (z : Spot). Contains (seats z at.label.kind at.label.tree) at.seat) (e ∙ w) at.seat_is in
      at.path_is ∙ ap (λ (path : List ℕ). at.label.path ++ path) (only seat.0 seat.1 seat.2) ∙ append-nil at.label.path
    where
      only : (i : ℕ) → i < 1 → get_or (record { path = []; tree = at.label.tree } ∷ []) i at.seat ≡ at.seat → at.seat.path ≡ []
      only zero lt g = ap (λ (z : Place). z.path) (sym g)
      only (suc i) lt g = absurd (omega (arith, lt))

  simple_other : kind.Simple ≡ kind.ExitNode → ⊥
  simple_other e = absurd (cc)

  -- types change no label
  seen_labels : (typed : Bool) (root : Tree) → slice_get items t.item ≡ Some (Parsed root) → graph_in typed items t.item ≡ Some at.graph
      → (graph_of root).labels ≡ at.graph.labels
  seen_labels true root e h =
      let scope = scope_of (take t.item items) in
      let is : Some (typed_tree scope root) ≡ Some at.graph = sym (ap (λ (o : Option Item). option_map (typed_tree scope) (item_tree o)) e) ∙ h in
      ap (λ (f : Flow). f.labels) (some_equal (typed_tree scope root) at.graph is)
  seen_labels false root e h = ap (λ (f : Flow). f.labels) (some_equal (graph_of root) at.graph (sym (ap item_graph e) ∙ h))

  -- an item without a tree has no graph
  no_graph : (typed : Bool) (o : Option Item) → slice_get items t.item ≡ o → item_tree o ≡ None → item_graph o ≡ None
      → graph_in typed items t.item ≡ Some at.graph → ⊥
  no_graph true o e n m h =
      let seen : Option Tree → Option Flow = option_map (typed_tree (scope_of (take t.item items))) in
      let is : None ≡ Some at.graph = sym (ap (λ (i : Option Item). seen (item_tree i)) e ∙ ap seen n) ∙ h in
      absurd (cc)
  no_graph false o e n m h = let is : None ≡ Some at.graph = sym (ap item_graph e ∙ m) ∙ h in absurd (cc)

  no_bodies_by : (item : Item) → slice_get items t.item ≡ Some item → seen_graph rule items t.item ≡ Some at.graph → (k : NodeKind)
      → kind_at (nodes_of rule items) t.item t.node ≡ Some k → (tree : Tree) → tree_at items t.item t.path ≡ Some tree
      → p.spot ≡ spot.Whole → k ≡ kind.Simple → is_head_tree tree ≡ false
  no_bodies_by (Skipped span why) e g k ke tree te w s = absurd (no_graph (ask_types rule.vars) (Some (Skipped span why)) e refl refl g)
  no_bodies_by (Parsed root) e g k ke tree te w s =
      let graph : (graph_of root).labels ≡ at.graph.labels = seen_labels (ask_types rule.vars) root e g in
      let label : slice_get (graph_of root).labels t.node ≡ Some at.label = ap (λ (ls : List NodeLabel). slice_get ls t.node) graph ∙ at.label_is in
      let simple : at.label.kind ≡ kind.Simple = some_equal at.label.kind k (sym (kind_known (Parsed root) e g) ∙ ke) ∙ s in
      let path : t.path ≡ at.label.path = whole_seat p.spot refl w in
      let there : subtree root at.label.path ≡ Some at.label.tree = path_law root t.node at.label label (λ x. simple_other (sym simple ∙ x)) in
      let known : tree_at items t.item t.path ≡ subtree root t.path = ap (option_and_then (λ (i : Item). part_of i t.path)) e in
      let same : at.label.tree ≡ tree = some_equal at.label.tree tree (sym there ∙ ap (subtree root) (sym path) ∙ sym known ∙ te) in
      ap is_head_tree (sym same) ∙ bare_law root t.node at.label label simple

  -- a tree that a simple node holds as a whole has no bodies
  pub no_bodies : (k : NodeKind) → kind_at (nodes_of rule items) t.item t.node ≡ Some k → (tree : Tree) → tree_at items t.item t.path ≡ Some tree
      → HasNoBodies p.spot k tree
  no_bodies k ke tree te = by (slice_get items t.item) refl at.graph_is
    where
      by : (o : Option Item) → slice_get items t.item ≡ o → seen_graph rule items t.item ≡ Some at.graph → HasNoBodies p.spot k tree
      by None e g = absurd (no_graph (ask_types rule.vars) None e refl refl g)
      by (Some item) e g = λ w s. no_bodies_by item e g k ke tree te w s

-- ---- the tokens that take part

-- tokens with plus code that are compared of one of the forms are compared of the first
abbrev pub KeepsPlus : List VarDecl → List PatToken → Pattern → Type 0
KeepsPlus vars tokens p =
    All (λ (f : Tree). (x : Var) → compared (λ a. in_plus vars (slice_get tokens a.id) x) p.spot f ≡ true
    → in_first (compared (λ a. in_plus vars (slice_get tokens a.id) x) p.spot) p.forms ≡ true) p.forms

abbrev pub AlignedLaw : Type 0
AlignedLaw = (decls : List VarDecl) (tokens : List PatToken) (types : ItemTypes) (env : Environment) (q : Token → Bool) (s : Spot) (k : NodeKind)
    (form t : Tree)
    → HasNoBodies s k t → fits_at decls tokens types env s k form t ≡ true → All (IsCompared q s form) (alignment_at decls tokens types env s k form t)

module _ (vars : List VarDecl) (tokens : List PatToken) where
  abbrev shows : Var → Token → Bool
  shows x a = in_plus vars (slice_get tokens a.id) x

  weaker_leaves : (x : Var) (ts : List Token) → list_any (shows x) ts ≡ true
      → list_any (λ a. is_own vars tokens x a || in_plus vars (slice_get tokens a.id) x) ts ≡ true
  weaker_leaves x [] h = h
  weaker_leaves x (a ∷ ts) h = ⊎_elim
      (λ k. or_left (is_own vars tokens x a || shows x a) _ (or_right (is_own vars tokens x a) (shows x a) k))
      (λ k. or_right (is_own vars tokens x a || shows x a) _ (weaker_leaves x ts k))
      (or_cases (shows x a) (list_any (shows x) ts) h)

  weaker_trees : (x : Var) (ts : List Tree) → list_any (λ t. list_any (shows x) (leaves t)) ts ≡ true → list_any (used_in vars tokens x) ts ≡ true
  weaker_trees x [] h = h
  weaker_trees x (t ∷ ts) h = ⊎_elim
      (λ k. or_left (used_in vars tokens x t) (list_any (used_in vars tokens x) ts) (weaker_leaves x (leaves t) k))
      (λ k. or_right (used_in vars tokens x t) (list_any (used_in vars tokens x) ts) (weaker_trees x ts k))
      (or_cases (list_any (shows x) (leaves t)) (list_any (λ t. list_any (shows x) (leaves t)) ts) h)

  first_used : (x : Var) (s : Spot) (fs : List Tree) → in_first (compared (shows x) s) fs ≡ true
      → in_first (λ f. list_any (used_in vars tokens x) (held s f)) fs ≡ true
  first_used x s [] h = h
  first_used x s (f ∷ fs) h = weaker_trees x (held s f) h

  -- plus code at the token of this number shows only variables that the pattern uses
  abbrev pub IsUsed : Pattern → ℕ → Type 0
  IsUsed p n = (x : Var) → in_plus vars (slice_get tokens n) x ≡ true → used vars tokens p x ≡ true

  module _ (law : AlignedLaw) (types : ItemTypes) (env : Environment) (p : Pattern) (keeps : KeepsPlus vars tokens p) (r : NodeRole) (tree : Tree)
      (bare : HasNoBodies p.spot r.kind tree) where
    pairs_used : (f : Tree) → Contains p.forms f → (ps : List Pair) → ((x : Var) → All (IsCompared (shows x) p.spot f) ps)
        → All (λ (a : AlignedToken). IsUsed p a.pattern) (numbers ps)
    pairs_used f c [] h = All-nil (λ (a : AlignedToken). IsUsed p a.pattern)
    pairs_used f c (q ∷ ps) h =
        All-cons (λ (a : AlignedToken). IsUsed p a.pattern) (aligned_token q) (numbers ps)
        (λ x k. first_used x p.spot p.forms
        (All-contains (λ (f : Tree). (x : Var) → compared (shows x) p.spot f ≡ true → in_first (compared (shows x) p.spot) p.forms ≡ true) p.forms f keeps c x
        (All-head (IsCompared (shows x) p.spot f) q ps (h x) k)))
        (pairs_used f c ps (λ x. All-tail (IsCompared (shows x) p.spot f) q ps (h x)))

    abbrev SomeUsed : Option (List AlignedToken) → Type 0
    SomeUsed None = Unit {0}
    SomeUsed (Some ps) = All (λ (a : AlignedToken). IsUsed p a.pattern) ps

    first_aligned_used : (fs : List Tree) → ((f : Tree) → Contains fs f → Contains p.forms f) → SomeUsed (first_aligned vars tokens types env p r tree fs)
    first_aligned_used [] c = tt
    first_aligned_used (f ∷ fs) c =
        let rest : (g : Tree) → Contains fs g → Contains p.forms g = λ g d. c g (suc d.0, omega (arith, d.1), d.2) in
        by (fits_seat vars tokens types env p r f tree) refl (first_aligned_used fs rest)
      where
        by : (b : Bool) → fits_seat vars tokens types env p r f tree ≡ b → SomeUsed (first_aligned vars tokens types env p r tree fs)
            → SomeUsed (cond b (Some (numbers (alignment_at vars tokens types env p.spot r.kind f tree))) (first_aligned vars tokens types env p r tree fs))
        by true e more =
            pairs_used f (c f (zero, omega arith, refl)) (alignment_at vars tokens types env p.spot r.kind f tree)
            (λ x. law vars tokens types env (shows x) p.spot r.kind f tree bare
            (and_right (is_live_in vars tokens p f && may_stand r f) (fits_at vars tokens types env p.spot r.kind f tree) e))
        by false e more = more

    pub aligned_used : SomeUsed (aligned_tokens vars tokens types env p r tree)
    aligned_used = first_aligned_used p.forms (λ f c. c)

  -- ---- by numbers

  numbered_used : (p : Pattern) (ids : List ℕ) (a : AlignedToken) → IsUsed p a.pattern → All (λ (q : Aligned). IsUsed p q.pattern) (numbered ids a)
  numbered_used p ids a h = by (nat_lt a.pattern (2 ^ 32))
    where
      by : (b : Bool) → All (λ (q : Aligned). IsUsed p q.pattern)
          (if b then record { pattern = a.pattern; files = filter_map (number_of ids) a.files } ∷ [] else [])
      by true =
          All-cons (λ (q : Aligned). IsUsed p q.pattern) (record { pattern = a.pattern; files = filter_map (number_of ids) a.files }) [] h
          (All-nil (λ (q : Aligned). IsUsed p q.pattern))
      by false = All-nil (λ (q : Aligned). IsUsed p q.pattern)

  all_numbered : (p : Pattern) (ids : List ℕ) (ps : List AlignedToken) → All (λ (a : AlignedToken). IsUsed p a.pattern) ps
      → All (λ (q : Aligned). IsUsed p q.pattern) (flat_map (numbered ids) ps)
  all_numbered p ids [] h = All-nil (λ (q : Aligned). IsUsed p q.pattern)
  all_numbered p ids (a ∷ ps) h =
      All-append (λ (q : Aligned). IsUsed p q.pattern) (numbered ids a) (flat_map (numbered ids) ps)
      (numbered_used p ids a (All-head (λ (a : AlignedToken). IsUsed p a.pattern) a ps h))
      (all_numbered p ids ps (All-tail (λ (a : AlignedToken). IsUsed p a.pattern) a ps h))

  -- ---- at a touch

  module _ (law : AlignedLaw) (path_law : PathLaw) (bare_law : BareLaw) (patterns : List Pattern) (distinct : none_alike alike patterns ≡ true)
      (rule : Rule) (items : List Item) (ids : List ℕ) (p : Pattern) (among : Contains patterns p) (keeps : KeepsPlus vars tokens p)
      (t : Touched) (atom : p.atom ≡ t.atom) (at : StandsAt rule items p t) where
    abbrev known : ItemTypes
    known = types_at (nodes_of rule items) t.item

    abbrev Used : List Aligned → Type 0
    Used qs = All (λ (q : Aligned). IsUsed p q.pattern) qs

    by_tree : (k : NodeKind) → kind_at (nodes_of rule items) t.item t.node ≡ Some k → (o : Option Tree) → tree_at items t.item t.path ≡ o
        → Used (pairs_of ids (option_and_then (λ tree. aligned_tokens vars tokens known (total t.env) p (role_at k t.path) tree) o))
    by_tree k ke None te = All-nil (λ (q : Aligned). IsUsed p q.pattern)
    by_tree k ke (Some tree) te =
        of_aligned (aligned_tokens vars tokens known (total t.env) p (role_at k t.path) tree)
        (aligned_used law known (total t.env) p keeps (role_at k t.path) tree (no_bodies path_law bare_law rule items p t at k ke tree te))
      where
        of_aligned : (o : Option (List AlignedToken))
            → SomeUsed law known (total t.env) p keeps (role_at k t.path) tree (no_bodies path_law bare_law rule items p t at k ke tree te) o
            → Used (pairs_of ids o)
        of_aligned None h = All-nil (λ (q : Aligned). IsUsed p q.pattern)
        of_aligned (Some ps) h = all_numbered p ids ps h

    by_kind : (o : Option NodeKind) → kind_at (nodes_of rule items) t.item t.node ≡ o
        → Used (pairs_of ids (option_and_then (λ k. option_and_then (λ tree. aligned_tokens vars tokens known (total t.env) p (role_at k t.path) tree)
        (tree_at items t.item t.path)) o))
    by_kind None ke = All-nil (λ (q : Aligned). IsUsed p q.pattern)
    by_kind (Some k) ke = by_tree k ke (tree_at items t.item t.path) refl

    by_pattern : (o : Option Pattern) → pattern_of patterns t.atom ≡ o
        → Used (pairs_of ids (option_and_then
        (λ q. option_and_then (λ k. option_and_then (λ tree. aligned_tokens vars tokens known (total t.env) q (role_at k t.path) tree)
        (tree_at items t.item t.path)) (kind_at (nodes_of rule items) t.item t.node)) o))
    by_pattern None e = All-nil (λ (q : Aligned). IsUsed p q.pattern)
    by_pattern (Some q) e =
        let n = named patterns t.atom q e in
        let same : p ≡ q = one_pattern patterns distinct p q among n.among (atom ∙ sym n.number) in
        subst (λ (r : Pattern). Used (pairs_of ids (option_and_then (λ k. option_and_then
        (λ tree. aligned_tokens vars tokens known (total t.env) r (role_at k t.path) tree)
        (tree_at items t.item t.path)) (kind_at (nodes_of rule items) t.item t.node)))) same
        (by_kind (kind_at (nodes_of rule items) t.item t.node) refl)

    -- plus code at each pattern token that takes part shows only variables that the pattern uses
    pub touch_used : Used (pairs_at patterns vars tokens items (nodes_of rule items) ids t)
    touch_used = by_pattern (pattern_of patterns t.atom) refl
