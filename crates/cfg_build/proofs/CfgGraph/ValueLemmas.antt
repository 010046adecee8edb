-- What is among the values of a graph.
use Rattle.std.proofs.Common.{◌≡◌, ℕ, zero, suc, refl, sym, ap, subst, arith, List, [], ◌∷◌, ◌++◌, map, Some, slice_get, Contains}
use Rattle.std.proofs.lemmas.List.Elements.{Contains-append_left, Contains-append_right}
use Rattle.c_terms.specs.declared.tree.Tree.{Tree, out-Tree}
use Rattle.c_terms.specs.declared.tree.Tree.TheVariants.{Leaf, Branch}
use Rattle.c_terms.specs.Trees.{join}
use Rattle.c_terms.specs.Places.{places, places_from}
use Rattle.c_terms.proofs.Induct.{tree_cases}
use Rattle.c_terms.proofs.PlaceLaws.{places-Leaf, places-Branch}
use Rattle.cfg_build.specs.declared.cfg_graph.label.NodeLabel.{NodeLabel}
use Rattle.cfg_build.specs.CfgGraph.Flow.{Flow}
use Rattle.cfg_build.specs.CfgGraph.Values.{runs_at, terms_at, terms_in, terms_of, places_in, places_of}

pub first : {X : Type 0} (x : X) (xs : List X) → Contains (x ∷ xs) x
first x xs = (zero, omega arith, refl)

pub in-join : {X : Type 0} (f : NodeLabel → List X) (ls : List NodeLabel) (n : ℕ) (l : NodeLabel) (x : X)
    → slice_get ls n ≡ Some l → Contains (f l) x → Contains (join (map f ls)) x
in-join f [] n l x e h = absurd (cc)
in-join f (m ∷ ls) zero l x e h = let g : l ≡ m = cc in Contains-append_left (f m) (join (map f ls)) x (subst (λ k. Contains (f k) x) g h)
in-join f (m ∷ ls) (suc n) l x e h = Contains-append_right (f m) (join (map f ls)) x (in-join f ls n l x e h)

abbrev pub BeginsItself : Tree → Type 0
BeginsItself t = (more : List Tree) × (terms_in t ≡ t ∷ more)

pub terms-first : (t : Tree) → BeginsItself t
terms-first = tree_cases BeginsItself
    (λ a. (runs_at (out-Tree (Leaf a)) ++ [], ap (λ ps. join (map (λ p. terms_at p.tree) ps)) (places-Leaf a)))
    (λ l cs. (
      runs_at (out-Tree (Branch l cs)) ++ join (map (λ p. terms_at p.tree) (places_from 0 (map places cs))),
      ap (λ ps. join (map (λ p. terms_at p.tree) ps)) (places-Branch l cs),
    ))

pub label-term : (g : Flow) (n : ℕ) (l : NodeLabel) → slice_get g.labels n ≡ Some l → Contains (terms_of g) l.tree
label-term g n l e =
    let t = terms-first l.tree in
    in-join (λ l. terms_in l.tree) g.labels n l l.tree e (subst (λ ts. Contains ts l.tree) (sym t.1) (first l.tree t.0))

pub label-place : (g : Flow) (n : ℕ) (l : NodeLabel) → slice_get g.labels n ≡ Some l → Contains (places_of g) l.brace
label-place g n l e = in-join places_in g.labels n l l.brace e (first l.brace _)
