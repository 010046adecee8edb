-- In the graph of an item the tree of a simple node has no bodies.
use Rattle.std.proofs.Common.{◌≡◌, ℕ, zero, suc, ◌+◌, Bool, true, false, refl, sym, ap, subst, ◌∙◌, List, [], ◌∷◌, ◌++◌, map, length, cond, Some, slice_get}
use Rattle.std.specs.Prelude.{All}
use Rattle.std.proofs.lemmas.List.Elements.{All-nil, All-cons, All-head, All-tail, All-append, All-map}
use Rattle.c_terms.specs.declared.token.Token.{Token}
use Rattle.c_terms.specs.declared.label.Label.{Label}
use Rattle.c_terms.specs.declared.label.Label.TheVariants as label
use Rattle.c_terms.specs.declared.tree.Tree.{Tree}
use Rattle.c_terms.specs.declared.tree.Tree.TheOpen.{Tree-F}
use Rattle.c_terms.specs.declared.tree.Tree.TheVariants.{Branch}
use Rattle.c_terms.specs.Shapes.{is_head_label}
use Rattle.c_terms.proofs.SameLemmas.{out-Leaf, out-Branch}
use Rattle.c_terms.proofs.Induct.{Each, tree_induction}
use Rattle.cfg_build.specs.declared.cfg_graph.label.NodeKind.TheVariants as kind
use Rattle.cfg_build.specs.declared.cfg_graph.label.NodeLabel.{NodeLabel}
use Rattle.cfg_build.specs.Forms.{form_of, is_part}
use Rattle.cfg_build.specs.Rows.{Node, Told, Part, part_step, picked, nodes_in, inside, first_kind, first_node, end_nodes, row, part, size}
use Rattle.cfg_build.specs.Graphs.{outermost, exit_node, nodes_of, graph_of}
use Rattle.cfg_build.proofs.PartLemmas.{at_leaf, part-Branch}
use Rattle.insert_laws.specs.AlignedLaws.Compared.{is_head_at, is_head_tree}

-- a label with bodies has no simple node
simple-label : (l : Label) → first_kind (form_of l) ≡ kind.Simple → is_head_label l ≡ false
simple-label label.If e = absurd (cc)
simple-label label.IfElse e = absurd (cc)
simple-label label.While e = absurd (cc)
simple-label label.Do e = absurd (cc)
simple-label label.For e = absurd (cc)
simple-label label.ForDecl e = absurd (cc)
simple-label label.Switch e = absurd (cc)
simple-label label.Iterator e = absurd (cc)
simple-label label.FunDef e = absurd (cc)
simple-label label.MacroFun e = absurd (cc)
simple-label _ e = refl

abbrev IsBare : NodeLabel → Type 0
IsBare l = l.kind ≡ kind.Simple → is_head_tree l.tree ≡ false

abbrev IsBareNode : Node → Type 0
IsBareNode n = IsBare n.label

abbrev Bares : Part → Type 0
Bares q = (a : Told) → All IsBareNode (q.nodes a)

abbrev AllBare : List (ℕ × Part) → Type 0
AllBare [] = Unit {0}
AllBare (q ∷ qs) = Bares q.1 × AllBare qs

nodes_in-bare : (l : Label) (a : Told) (at : ℕ) (qs : List (ℕ × Part)) → AllBare qs → All IsBareNode (nodes_in (form_of l) a at qs)
nodes_in-bare l a at [] h = All-nil IsBareNode
nodes_in-bare l a at (q ∷ qs) h =
    All-append IsBareNode (q.1.nodes (inside (form_of l) a q.0 q.1.tree at (at + q.1.size))) (nodes_in (form_of l) a (at + q.1.size) qs)
    (h.0 (inside (form_of l) a q.0 q.1.tree at (at + q.1.size))) (nodes_in-bare l a (at + q.1.size) qs h.1)

end-bare : (l : Label) (t : Tree) (a : Told) → All IsBareNode (end_nodes (form_of l) t a)
end-bare label.Block t a = All-cons IsBareNode _ [] (λ e. let no : ⊥ = cc in absurd no) (All-nil IsBareNode)
end-bare label.Do t a = All-cons IsBareNode _ [] (λ e. let no : ⊥ = cc in absurd no) (All-nil IsBareNode)
end-bare _ t a = All-nil IsBareNode

row-bare : (l : Label) (t : Tree) (qs : List (ℕ × Part)) → (first_kind (form_of l) ≡ kind.Simple → is_head_tree t ≡ false) → AllBare qs
    → Bares (row (form_of l) t qs)
row-bare l t qs s h a =
    All-cons IsBareNode (first_node (form_of l) t qs a) (nodes_in (form_of l) a (a.at + 1) qs ++ end_nodes (form_of l) t a) s
    (All-append IsBareNode (nodes_in (form_of l) a (a.at + 1) qs) (end_nodes (form_of l) t a) (nodes_in-bare l a (a.at + 1) qs h) (end-bare l t a))

leaf-bare : (a : Token) → Bares (part_step (Tree-F.Leaf a))
leaf-bare a told = All-cons IsBareNode _ [] (λ e. ap is_head_at (out-Leaf a)) (All-nil IsBareNode)

abbrev BareTree : Tree → Type 0
BareTree t = Bares (part t)

picked-bare : (l : Label) (n i : ℕ) (cs : List Tree) → Each BareTree cs → AllBare (picked (form_of l) n i (map part cs))
picked-bare l n i [] e = tt
picked-bare l n i (c ∷ cs) e = by (is_part (form_of l) n i) (picked-bare l n (suc i) cs e.1)
  where
    by : (b : Bool) → AllBare (picked (form_of l) n (suc i) (map part cs))
        → AllBare (cond b ((i, part c) ∷ picked (form_of l) n (suc i) (map part cs)) (picked (form_of l) n (suc i) (map part cs)))
    by true r = (e.0, r)
    by false r = r

part-bare : (t : Tree) → BareTree t
part-bare = tree_induction BareTree
    (λ a. subst Bares (sym (at_leaf a)) (leaf-bare a))
    (λ l cs e.
    let qs = picked (form_of l) (length cs) 0 (map part cs) in
    subst Bares (sym (part-Branch l cs))
    (row-bare l (Branch l cs) qs (λ k. ap is_head_at (out-Branch l cs) ∙ simple-label l k) (picked-bare l (length cs) 0 cs e)))

all-get : (xs : List NodeLabel) (n : ℕ) (l : NodeLabel) → slice_get xs n ≡ Some l → All IsBare xs → IsBare l
all-get [] n l e a = absurd (cc)
all-get (x ∷ xs) zero l e a = let g : x ≡ l = cc in subst IsBare g (All-head IsBare x xs a)
all-get (x ∷ xs) (suc n) l e a = all-get xs n l e (All-tail IsBare x xs a)

pub labels-bare : (t : Tree) (n : ℕ) (l : NodeLabel) → slice_get (graph_of t).labels n ≡ Some l → l.kind ≡ kind.Simple → is_head_tree l.tree ≡ false
labels-bare t n l e =
    let a = All-append IsBareNode ((part t).nodes (outermost (part t))) (exit_node (size t) ∷ []) (part-bare t (outermost (part t)))
    (All-cons IsBareNode (exit_node (size t)) [] (λ h. let no : ⊥ = cc in absurd no) (All-nil IsBareNode)) in
    all-get (graph_of t).labels n l e (All-map IsBare (λ n. n.label) (nodes_of t) a)
