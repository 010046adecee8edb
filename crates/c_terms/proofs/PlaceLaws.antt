-- The places of a tree, one level at a time.
use Rattle.std.proofs.Common.{◌≡◌, ℕ, refl, sym, ap, ◌∙◌, List, [], ◌∷◌, map, Bool}
use Rattle.c_terms.specs.declared.token.Token.{Token}
use Rattle.c_terms.specs.declared.label.Label.{Label}
use Rattle.c_terms.specs.declared.tree.Tree.{Tree}
use Rattle.c_terms.specs.declared.tree.Tree.TheOpen.{Tree-F}
use Rattle.c_terms.specs.declared.tree.Tree.TheVariants.{Leaf, Branch, rolls-Leaf, rolls-Branch}
use Rattle.c_terms.specs.declared.tree.Tree.TheFolds.{fold-Tree, fold-roll-Tree}
use Rattle.c_terms.specs.Places.{Known, places, places_step, places_from, parts, parts_step, parts_from}
use Rattle.c_terms.proofs.Induct.{Each, tree_induction}

-- what a fold that keeps the tree knows about it
abbrev Keeps : (Tree-F Known → Known) → Tree → Type 0
Keeps step t = (fold-Tree Known step t).tree ≡ t

kids-kept : (step : Tree-F Known → Known) (cs : List Tree) → Each (Keeps step) cs → map (λ (k : Known). k.tree) (map (fold-Tree Known step) cs) ≡ cs
kids-kept step [] e = refl
kids-kept step (c ∷ cs) e = let h = e.0 in let r = kids-kept step cs e.1 in cc

at_leaf : (step : Tree-F Known → Known) (a : Token) → fold-Tree Known step (Leaf a) ≡ step (Tree-F.Leaf a)
at_leaf step a = ap (fold-Tree Known step) (sym (rolls-Leaf a)) ∙ fold-roll-Tree Known step _

at_branch : (step : Tree-F Known → Known) (l : Label) (cs : List Tree)
    → fold-Tree Known step (Branch l cs) ≡ step (Tree-F.Branch l (map (fold-Tree Known step) cs))
at_branch step l cs = ap (fold-Tree Known step) (sym (rolls-Branch l cs)) ∙ fold-roll-Tree Known step _

places-kept : (t : Tree) → Keeps places_step t
places-kept = tree_induction (Keeps places_step)
    (λ a. ap (λ k. k.tree) (at_leaf places_step a))
    (λ l cs e. ap (λ k. k.tree) (at_branch places_step l cs) ∙ ap (Branch l) (kids-kept places_step cs e))

map-places : (cs : List Tree) → map (λ (k : Known). k.places) (map (fold-Tree Known places_step) cs) ≡ map places cs
map-places [] = refl
map-places (c ∷ cs) = ap (λ ps. places c ∷ ps) (map-places cs)

-- a leaf is its only place
pub places-Leaf : (a : Token) → places (Leaf a) ≡ record { path = []; tree = Leaf a } ∷ []
places-Leaf a = ap (λ k. k.places) (at_leaf places_step a)

all-kept : (step : Tree-F Known → Known) → ((t : Tree) → Keeps step t) → (cs : List Tree) → map (λ (k : Known). k.tree) (map (fold-Tree Known step) cs) ≡ cs
all-kept step keeps [] = refl
all-kept step keeps (c ∷ cs) = let h = keeps c in let r = all-kept step keeps cs in cc

-- a branch, and then the places of its children in order
pub places-Branch : (l : Label) (cs : List Tree) → places (Branch l cs) ≡ record { path = []; tree = Branch l cs } ∷ places_from 0 (map places cs)
places-Branch l cs =
    let k = all-kept places_step places-kept cs in
    let m = map-places cs in
    ap (λ k. k.places) (at_branch places_step l cs) ∙ (λ i. record { path = []; tree = Branch l (k i) } ∷ places_from 0 (m i))

module _ (test : Label → ℕ → Tree → Bool) where
  parts-kept : (t : Tree) → Keeps (parts_step test) t
  parts-kept = tree_induction (Keeps (parts_step test))
      (λ a. ap (λ k. k.tree) (at_leaf (parts_step test) a))
      (λ l cs e. ap (λ k. k.tree) (at_branch (parts_step test) l cs) ∙ ap (Branch l) (kids-kept (parts_step test) cs e))

  -- what is known about a child
  abbrev pub child_known : Tree → Known
  child_known c = record { tree = c; places = parts test c }

  map-known : (cs : List Tree) → map (fold-Tree Known (parts_step test)) cs ≡ map child_known cs
  map-known [] = refl
  map-known (c ∷ cs) =
      let k = parts-kept c in let r = map-known cs in λ i. record { tree = k i; places = parts test c } ∷ r i

  pub parts-Leaf : (a : Token) → parts test (Leaf a) ≡ []
  parts-Leaf a = ap (λ k. k.places) (at_leaf (parts_step test) a)

  -- the parts of a branch, child by child: a child that passes, and then the parts in it
  pub parts-Branch : (l : Label) (cs : List Tree) → parts test (Branch l cs) ≡ parts_from test l 0 (map child_known cs)
  parts-Branch l cs = ap (λ k. k.places) (at_branch (parts_step test) l cs) ∙ ap (parts_from test l 0) (map-known cs)
