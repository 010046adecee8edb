-- The paths of nodes, as more nodes are pushed.
use Rattle.std.proofs.Common.{◌≡◌, ℕ, ◌+◌, ◌<◌, ap, ◌∙◌, arith, List, [], ◌∷◌, map, length, get_or, length-append}
use Rattle.std.proofs.lemmas.List.{length-map, map-append, get_or_append_left, get_or_push}
use Rattle.c_terms.specs.declared.tree.Tree.{Tree}
use Rattle.cfg_build.specs.declared.cfg_graph.label.NodeLabel.{NodeLabel}
use Rattle.cfg_build.specs.CfgGraph.Flow.{Flow, count_of}
use Rattle.cfg_build.specs.CfgGraph.Labels.{paths_in, path_at}
use Rattle.cfg_build.specs.Rows.{Node, Told, part, size}
use Rattle.cfg_build.specs.Graphs.{plus}
use Rattle.cfg_build.proofs.SoundLemmas.{part-fine}

count-plus : (g : Flow) (ns : List Node) → count_of (plus g ns) ≡ count_of g + length ns
count-plus g ns = length-append g.labels (map (λ n. n.label) ns) ∙ ap (λ k. count_of g + k) (length-map ns (λ n. n.label))

-- the number of nodes with one more, and with those of a part
pub count-first : (g h : Flow) (n : Node) (at : ℕ) → h ≡ plus g (n ∷ []) → count_of g ≡ at → count_of h ≡ at + 1
count-first g h n at e c = let p = count-plus g (n ∷ []) in let q = ap count_of e in omega (arith, p, q, c)

pub count-part : (g h : Flow) (t : Tree) (a : Told) (at end : ℕ) → h ≡ plus g ((part t).nodes a) → count_of g ≡ at → end ≡ at + size t → count_of h ≡ end
count-part g h t a at end e c m =
    let p = count-plus g ((part t).nodes a) in let q = ap count_of e in let r = (part-fine t).each a in omega (arith, p, q, r, c, m)

paths-length : (labels : List NodeLabel) → length (paths_in labels) ≡ length labels
paths-length labels = length-map labels (λ l. l.path)

-- the path of the node that is pushed, and of those before
pub path-first : (g h : Flow) (n : Node) (at : ℕ) → h ≡ plus g (n ∷ []) → count_of g ≡ at → path_at h.labels at ≡ n.label.path
path-first g h n at e c =
    ap (λ (g : Flow). path_at g.labels at) e ∙ ap (λ ps. get_or ps at []) (map-append (λ (l : NodeLabel). l.path) g.labels (n.label ∷ []))
    ∙ get_or_push (paths_in g.labels) n.label.path [] at (paths-length g.labels ∙ c)

pub path-kept : (g h : Flow) (ns : List Node) (k : ℕ) → h ≡ plus g ns → k < count_of g → path_at h.labels k ≡ path_at g.labels k
path-kept g h ns k e w =
    let more = map (λ n. n.label) ns in
    let l = paths-length g.labels in
    ap (λ (g : Flow). path_at g.labels k) e ∙ ap (λ ps. get_or ps k []) (map-append (λ (l : NodeLabel). l.path) g.labels more)
    ∙ get_or_append_left (paths_in g.labels) (paths_in more) [] k (omega (arith, l, w))
