-- The labels of nodes that are kept: one more node, and the label of a number.
use Rattle.std.proofs.Common.{◌≡◌, ℕ, zero, suc, ◌<◌, refl, sym, ap, ◌∙◌, List, [], ◌∷◌, ◌++◌, length, get_or, append_assoc}
use Rattle.std.proofs.Common.{append-nil, Option, Some, slice_get}
use Rattle.std.proofs.lemmas.Option.{slice_get_read}
use Rattle.c_terms.specs.declared.tree.Tree.{Tree}
use Rattle.c_types.specs.Tables.{no_types}
use Rattle.cfg_build.specs.declared.cfg_graph.label.NodeLabel.{NodeLabel}
use Rattle.cfg_build.specs.declared.cfg_graph.node.NodeEntry.{NodeEntry}
use Rattle.cfg_build.specs.CfgGraph.Flow.{Flow, count_of}
use Rattle.cfg_build.specs.CfgGraph.Seats.{path_to, paths_after, path_of}
use Rattle.cfg_build.specs.CfgGraph.Labels.{tree_of, label_of, labels_after, labels_of, paths_in, with_node}

labels-length : (done : List (List ℕ)) (ns : List NodeEntry) → length (labels_after done ns) ≡ length ns
labels-length done [] = refl
labels-length done (n ∷ ns) = ap suc (labels-length (done ++ path_to done n.seat ∷ []) ns)

labels-paths : (done : List (List ℕ)) (ns : List NodeEntry) → paths_in (labels_after done ns) ≡ paths_after done ns
labels-paths done [] = refl
labels-paths done (n ∷ ns) = ap (λ ps. path_to done n.seat ∷ ps) (labels-paths (done ++ path_to done n.seat ∷ []) ns)

labels-snoc : (done : List (List ℕ)) (ns : List NodeEntry) (n : NodeEntry)
    → labels_after done (ns ++ n ∷ []) ≡ labels_after done ns ++ label_of (path_to (done ++ paths_after done ns) n.seat) n ∷ []
labels-snoc done [] n = ap (λ ps. label_of (path_to ps n.seat) n ∷ []) (sym (append-nil done))
labels-snoc done (m ∷ ns) n =
    let p = path_to done m.seat in
    let ls = labels_after (done ++ p ∷ []) ns in
    ap (λ more. label_of p m ∷ more) (labels-snoc (done ++ p ∷ []) ns n)
    ∙ ap (λ ps. label_of p m ∷ (ls ++ label_of (path_to ps n.seat) n ∷ [])) (append_assoc done (p ∷ []) (paths_after (done ++ p ∷ []) ns))

label-after : (done : List (List ℕ)) (ns : List NodeEntry) (k : ℕ) (n : NodeEntry) → slice_get ns k ≡ Some n
    → slice_get (labels_after done ns) k ≡ Some (label_of (get_or (paths_after done ns) k []) n)
label-after done [] k n e = absurd (cc)
label-after done (m ∷ ns) zero n e =
    let same : m ≡ n = cc in ap (λ (x : NodeEntry). Some (label_of (path_to done m.seat) x)) same
label-after done (m ∷ ns) (suc k) n e = label-after (done ++ path_to done m.seat ∷ []) ns k n e

-- the label of the node of a number, by the lists that contracts see
pub label-there : (ns : List NodeEntry) (labels : List NodeLabel) (k : ℕ) (n : NodeEntry) (tree : Tree) (path : List ℕ)
    → labels_of ns ≡ labels → k < length ns → n ≡ get_or ns k n
    → tree ≡ tree_of n.kind n.tree.now → path ≡ path_of ns k
    → slice_get labels k ≡ Some (record { kind = n.kind; tree = tree; path = path; bail = n.bail; brace = n.brace })
label-there ns labels k n tree path e h g t p =
    let there : slice_get ns k ≡ Some n = slice_get_read ns (length ns) k n refl h g in
    let u = sym t in
    let q = sym p in
    ap (λ ls. slice_get ls k) (sym e) ∙ label-after [] ns k n there
    ∙ (λ j. Some (record { kind = n.kind; tree = u j; path = q j; bail = n.bail; brace = n.brace }))

pub kept-length : (ns : List NodeEntry) (g : Flow) → labels_of ns ≡ g.labels → length ns ≡ count_of g
kept-length ns g e = sym (labels-length [] ns) ∙ ap length e

-- the lists with one more node
pub node-put : (ns more : List NodeEntry) (n : NodeEntry) (succ succ' down down' : List (List ℕ)) (past past' : List (Option ℕ)) (s d : List ℕ) (p : Option ℕ)
    → more ≡ ns ++ n ∷ [] → succ' ≡ succ ++ s ∷ [] → past' ≡ past ++ p ∷ [] → down' ≡ down ++ d ∷ []
    → record { labels = labels_of more; succ = succ'; past = past'; down = down'; types = no_types }
    ≡ with_node (record { labels = labels_of ns; succ = succ; past = past; down = down; types = no_types }) n s p d
node-put ns more n succ succ' down down' past past' s d p e es ep ed =
    let l = ap labels_of e ∙ labels-snoc [] ns n ∙ ap (λ ps. labels_of ns ++ label_of (path_to ps n.seat) n ∷ []) (sym (labels-paths [] ns)) in
    λ j. record { labels = l j; succ = es j; past = ep j; down = ed j; types = no_types }
