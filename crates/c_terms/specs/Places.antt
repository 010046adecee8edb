-- A tree's subtrees and their paths.
use Rattle.std.specs.Prelude.{ℕ, suc, Bool, List, [], ◌∷◌, ◌++◌, map, Option, None, Some, slice_get, option_and_then, if◌then◌else◌}
use Rattle.c_terms.specs.declared.label.Label.{Label}
use Rattle.c_terms.specs.declared.tree.Tree.{Tree, out-Tree}
use Rattle.c_terms.specs.declared.tree.Tree.TheOpen.{Tree-F}
use Rattle.c_terms.specs.declared.tree.Tree.TheVariants.{Leaf, Branch}
use Rattle.c_terms.specs.declared.tree.Tree.TheFolds.{fold-Tree}

abbrev pub child_at : Tree-F Tree → ℕ → Option Tree
child_at (Tree-F.Leaf token) i = None
child_at (Tree-F.Branch l cs) i = slice_get cs i

abbrev pub child : Tree → ℕ → Option Tree
child t i = child_at (out-Tree t) i

-- the subtree at a path of child numbers, from the root downwards
abbrev pub subtree : Tree → List ℕ → Option Tree
subtree t [] = Some t
subtree t (i ∷ path) = option_and_then (λ c. subtree c path) (child t i)

-- a subtree and where it is
pub record Place : Type 0 where
  pub path : List ℕ
  pub tree : Tree

-- the place as seen from one level higher
abbrev pub below : ℕ → Place → Place
below i p = record { path = i ∷ p.path; tree = p.tree }

abbrev pub places_from : ℕ → List (List Place) → List Place
places_from i [] = []
places_from i (ps ∷ more) = map (below i) ps ++ places_from (suc i) more

-- what is known about a tree while its places are collected
pub record Known : Type 0 where
  pub tree : Tree
  pub places : List Place

abbrev pub places_step : Tree-F Known → Known
places_step (Tree-F.Leaf token) = record { tree = Leaf token; places = record { path = []; tree = Leaf token } ∷ [] }
places_step (Tree-F.Branch l ks) =
    let whole = Branch l (map (λ k. k.tree) ks) in
    record { tree = whole; places = record { path = []; tree = whole } ∷ places_from 0 (map (λ k. k.places) ks) }

-- all subtrees by place, each before those inside it
abbrev pub places : Tree → List Place
places t = (fold-Tree Known places_step t).places

module _ (test : Label → ℕ → Tree → Bool) where
  -- child i itself, if it passes
  abbrev pub part_at : Label → ℕ → Tree → List Place
  part_at l i t = if test l i t then record { path = i ∷ []; tree = t } ∷ [] else []

  abbrev pub parts_from : Label → ℕ → List Known → List Place
  parts_from l i [] = []
  parts_from l i (k ∷ ks) = part_at l i k.tree ++ map (below i) k.places ++ parts_from l (suc i) ks

  abbrev pub parts_step : Tree-F Known → Known
  parts_step (Tree-F.Leaf token) = record { tree = Leaf token; places = [] }
  parts_step (Tree-F.Branch l ks) = record { tree = Branch l (map (λ k. k.tree) ks); places = parts_from l 0 ks }

  -- the subtrees below a tree, by place, that pass a test of their branch's label, their number in it, and themselves
  abbrev pub parts : Tree → List Place
  parts t = (fold-Tree Known parts_step t).places
