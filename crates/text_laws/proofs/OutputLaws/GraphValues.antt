-- The values of an item's graph are terms of the item's tokens.
use Rattle.std.proofs.Common.{ℕ, suc, ◌+◌, Bool, true, false, cond, sym, subst, List, [], ◌∷◌, ◌++◌, map, length, None}
use Rattle.std.specs.Prelude.{All}
use Rattle.std.proofs.lemmas.List.Elements.{All-nil, All-cons, All-head, All-tail, All-append}
use Rattle.c_terms.specs.declared.token.Token.{Token}
use Rattle.c_terms.specs.declared.label.Label.{Label}
use Rattle.c_terms.specs.declared.label.Label.TheVariants as label
use Rattle.c_terms.specs.declared.list.Member.{Member}
use Rattle.c_terms.specs.declared.shape.Shape.{Shape}
use Rattle.c_terms.specs.declared.shape.Shape.TheVariants as shape
use Rattle.c_terms.specs.declared.tree.Tree.{Tree, out-Tree}
use Rattle.c_terms.specs.declared.tree.Tree.TheOpen.{Tree-F}
use Rattle.c_terms.specs.declared.tree.Tree.TheVariants.{Leaf, Branch}
use Rattle.c_terms.specs.Trees.{leaves, join}
use Rattle.c_terms.specs.Shapes.{shape_of}
use Rattle.c_terms.specs.Lists.{members}
use Rattle.c_terms.specs.Places.{Place, below, places, places_from}
use Rattle.c_terms.proofs.Induct.{Each, tree_induction}
use Rattle.c_terms.proofs.TreeLemmas.{leaves-Branch}
use Rattle.c_terms.proofs.PlaceLaws.{places-Leaf, places-Branch}
use Rattle.cfg_build.specs.declared.cfg_graph.label.NodeLabel.{NodeLabel}
use Rattle.cfg_build.specs.CfgGraph.Empty.{no_statements}
use Rattle.cfg_build.specs.CfgGraph.Values.{runs_after, runs_from, runs_of_shape, runs_at, terms_at, terms_in, terms_of, places_of}
use Rattle.cfg_build.specs.Forms.{form_of, is_part}
use Rattle.cfg_build.specs.Rows.{Node, Told, Part, picked, nodes_in, inside, first_node, end_nodes, row, part, size}
use Rattle.cfg_build.specs.Graphs.{outermost, exit_node, nodes_of, graph_of}
use Rattle.cfg_build.proofs.PartLemmas.{at_leaf, part-Branch, part-tree}
use Rattle.ctl_fixpoint.specs.CtlHolds.Values.{values_of}
use Rattle.smpl_terms.specs.declared.value.Value.{Value}
use Rattle.smpl_terms.specs.declared.value.Value.TheVariants.{Term, Place as PlaceOf}
use Rattle.edit_marks.specs.Plain.{IsCToken, AreCTokens}
use Rattle.text_laws.specs.OutputLaws.Values.{AreCValues}
use Rattle.text_laws.proofs.OutputLaws.TreeTokens.{Have, TreeHas, kids_have, layer, Layer, MembersHave, members_have, run_has}

module _ (P : Token → Type 0) where
  -- ---- the labels of a graph

  abbrev NodeHas : Node → Type 0
  NodeHas n = TreeHas P n.label.tree

  abbrev Own : Part → Type 0
  Own q = TreeHas P q.tree → (a : Told) → All NodeHas (q.nodes a)

  abbrev AllOwn : List (ℕ × Part) → Type 0
  AllOwn [] = Unit {0}
  AllOwn (q ∷ qs) = (TreeHas P q.1.tree × Own q.1) × AllOwn qs

  parts_have : (l : Label) (a : Told) (at : ℕ) (qs : List (ℕ × Part)) → AllOwn qs → All NodeHas (nodes_in (form_of l) a at qs)
  parts_have l a at [] h = All-nil NodeHas
  parts_have l a at (q ∷ qs) h =
      All-append NodeHas (q.1.nodes (inside (form_of l) a q.0 q.1.tree at (at + q.1.size))) (nodes_in (form_of l) a (at + q.1.size) qs)
      (h.0.1 h.0.0 (inside (form_of l) a q.0 q.1.tree at (at + q.1.size))) (parts_have l a (at + q.1.size) qs h.1)

  end_has : (l : Label) (t : Tree) (a : Told) → TreeHas P t → All NodeHas (end_nodes (form_of l) t a)
  end_has label.Block t a h = All-cons NodeHas _ [] h (All-nil NodeHas)
  end_has label.Do t a h = All-cons NodeHas _ [] h (All-nil NodeHas)
  end_has _ t a h = All-nil NodeHas

  row_has : (l : Label) (t : Tree) (qs : List (ℕ × Part)) → (TreeHas P t → AllOwn qs) → Own (row (form_of l) t qs)
  row_has l t qs from h a =
      All-cons NodeHas (first_node (form_of l) t qs a) (nodes_in (form_of l) a (a.at + 1) qs ++ end_nodes (form_of l) t a) h
      (All-append NodeHas (nodes_in (form_of l) a (a.at + 1) qs) (end_nodes (form_of l) t a) (parts_have l a (a.at + 1) qs (from h)) (end_has l t a h))

  abbrev PartHas : Tree → Type 0
  PartHas t = Own (part t)

  picked_have : (l : Label) (n i : ℕ) (cs : List Tree) → Each PartHas cs → Each (TreeHas P) cs → AllOwn (picked (form_of l) n i (map part cs))
  picked_have l n i [] e h = tt
  picked_have l n i (c ∷ cs) e h = by (is_part (form_of l) n i) (picked_have l n (suc i) cs e.1 h.1)
    where
      by : (b : Bool) → AllOwn (picked (form_of l) n (suc i) (map part cs))
          → AllOwn (cond b ((i, part c) ∷ picked (form_of l) n (suc i) (map part cs)) (picked (form_of l) n (suc i) (map part cs)))
      by true r = ((subst (TreeHas P) (sym (part-tree c)) h.0, e.0), r)
      by false r = r

  -- the form of a list of statements is that of a token: it has no parts
  part_has : (t : Tree) → PartHas t
  part_has = tree_induction PartHas
      (λ a. subst Own (sym (at_leaf a)) (row_has label.StmtList (Leaf a) [] (λ h. tt)))
      (λ l cs e. subst Own (sym (part-Branch l cs))
      (row_has l (Branch l cs) (picked (form_of l) (length cs) 0 (map part cs))
      (λ h. picked_have l (length cs) 0 cs e (kids_have P cs (subst (Have P) (leaves-Branch l cs) h)))))

  empty_has : TreeHas P no_statements
  empty_has = subst (Have P) (sym (leaves-Branch label.StmtList [])) tt

  abbrev LabelHas : NodeLabel → Type 0
  LabelHas l = TreeHas P l.tree

  labels_have : (nodes : List Node) → All NodeHas nodes → All LabelHas (map (λ n. n.label) nodes)
  labels_have [] h = All-nil LabelHas
  labels_have (n ∷ nodes) h = All-cons LabelHas n.label (map (λ m. m.label) nodes) (All-head NodeHas n nodes h) (labels_have nodes (All-tail NodeHas n nodes h))

  graph_has : (t : Tree) → TreeHas P t → All LabelHas (graph_of t).labels
  graph_has t h =
      labels_have (nodes_of t) (All-append NodeHas ((part t).nodes (outermost (part t))) (exit_node (size t) ∷ [])
      (part_has t (subst (TreeHas P) (sym (part-tree t)) h) (outermost (part t)))
      (All-cons NodeHas (exit_node (size t)) [] empty_has (All-nil NodeHas)))

  -- ---- terms in a tree

  abbrev TreesHave : List Tree → Type 0
  TreesHave [] = Unit {0}
  TreesHave (t ∷ ts) = TreeHas P t × TreesHave ts

  trees_both : (xs ys : List Tree) → TreesHave xs → TreesHave ys → TreesHave (xs ++ ys)
  trees_both [] ys h k = k
  trees_both (x ∷ xs) ys h k = (h.0, trees_both xs ys h.1 k)

  members_both : (xs ys : List Member) → MembersHave P xs → MembersHave P ys → MembersHave P (xs ++ ys)
  members_both [] ys h k = k
  members_both (x ∷ xs) ys h k = (h.0, members_both xs ys h.1 k)

  after_have : (l : Label) (before ms : List Member) → MembersHave P before → MembersHave P ms → TreesHave (runs_after l before ms)
  after_have l before [] b h = tt
  after_have l before (m ∷ ms) b h =
      let more : MembersHave P (before ++ m ∷ []) = members_both before (m ∷ []) b (h.0, tt) in
      (run_has P l (before ++ m ∷ []) more, after_have l (before ++ m ∷ []) ms more h.1)

  from_have : (l : Label) (ms : List Member) → MembersHave P ms → TreesHave (runs_from l ms)
  from_have l [] h = tt
  from_have l (m ∷ ms) h = trees_both (runs_after l [] (m ∷ ms)) (runs_from l ms) (after_have l [] (m ∷ ms) tt h) (from_have l ms h.1)

  shape_have : (s : Shape) (l : Label) (cs : List Tree) → Each (TreeHas P) cs → TreesHave (runs_of_shape s l cs)
  shape_have shape.List l cs h =
      let all : MembersHave P (members cs) = members_have P None cs tt h in
      (run_has P l [] tt, from_have l (members cs) all)
  shape_have _ l cs h = tt

  runs_by : (y : Tree-F Tree) → Layer P y → TreesHave (runs_at y)
  runs_by (Tree-F.Leaf a) h = tt
  runs_by (Tree-F.Branch l cs) h = shape_have (shape_of l) l cs h

  at_has : (t : Tree) → TreeHas P t → TreesHave (terms_at t)
  at_has t h = (h, runs_by (out-Tree t) (layer P t h))

  abbrev PlacesHave : List Place → Type 0
  PlacesHave [] = Unit {0}
  PlacesHave (p ∷ ps) = TreeHas P p.tree × PlacesHave ps

  below_have : (i : ℕ) (ps qs : List Place) → PlacesHave ps → PlacesHave qs → PlacesHave (map (below i) ps ++ qs)
  below_have i [] qs h k = k
  below_have i (p ∷ ps) qs h k = (h.0, below_have i ps qs h.1 k)

  abbrev HasPlaces : Tree → Type 0
  HasPlaces t = TreeHas P t → PlacesHave (places t)

  kids_places : (i : ℕ) (cs : List Tree) → Each HasPlaces cs → Each (TreeHas P) cs → PlacesHave (places_from i (map places cs))
  kids_places i [] e h = tt
  kids_places i (c ∷ cs) e h = below_have i (places c) (places_from (suc i) (map places cs)) (e.0 h.0) (kids_places (suc i) cs e.1 h.1)

  places_have : (t : Tree) → HasPlaces t
  places_have = tree_induction HasPlaces
      (λ a h. subst PlacesHave (sym (places-Leaf a)) (h, tt))
      (λ l cs e h. subst PlacesHave (sym (places-Branch l cs)) (h, kids_places 0 cs e (kids_have P cs (subst (Have P) (leaves-Branch l cs) h))))

  terms_by : (ps : List Place) → PlacesHave ps → TreesHave (join (map (λ p. terms_at p.tree) ps))
  terms_by [] h = tt
  terms_by (p ∷ ps) h = trees_both (terms_at p.tree) (join (map (λ q. terms_at q.tree) ps)) (at_has p.tree h.0) (terms_by ps h.1)

  labels_terms : (ls : List NodeLabel) → All LabelHas ls → TreesHave (join (map (λ l. terms_in l.tree) ls))
  labels_terms [] h = tt
  labels_terms (l ∷ ls) h =
      trees_both (terms_in l.tree) (join (map (λ m. terms_in m.tree) ls)) (terms_by (places l.tree) (places_have l.tree (All-head LabelHas l ls h)))
      (labels_terms ls (All-tail LabelHas l ls h))

  graph_terms : (t : Tree) → TreeHas P t → TreesHave (terms_of (graph_of t))
  graph_terms t h = labels_terms (graph_of t).labels (graph_has t h)

-- ---- values

abbrev IsC : Token → Type 0
IsC t = IsCToken t.kind t.text

c_have : (ts : List Token) → AreCTokens ts → Have IsC ts
c_have [] h = tt
c_have (t ∷ ts) h = (h.0, c_have ts h.1)

have_c : (ts : List Token) → Have IsC ts → AreCTokens ts
have_c [] h = tt
have_c (t ∷ ts) h = (h.0, have_c ts h.1)

values_both : (xs ys : List Value) → AreCValues xs → AreCValues ys → AreCValues (xs ++ ys)
values_both [] ys h k = k
values_both (x ∷ xs) ys h k = (h.0, values_both xs ys h.1 k)

term_values : (ts : List Tree) → TreesHave IsC ts → AreCValues (map Term ts)
term_values [] h = tt
term_values (t ∷ ts) h = (have_c (leaves t) h.0, term_values ts h.1)

place_values : (ids : List ℕ) → AreCValues (map PlaceOf ids)
place_values [] = tt
place_values (id ∷ ids) = (tt, place_values ids)

pub sound_values : (t : Tree) → AreCTokens (leaves t) → AreCValues (values_of (graph_of t))
sound_values t h =
    values_both (map Term (terms_of (graph_of t))) (map PlaceOf (places_of (graph_of t)))
    (term_values (terms_of (graph_of t)) (graph_terms IsC t (c_have (leaves t) h))) (place_values (places_of (graph_of t)))
