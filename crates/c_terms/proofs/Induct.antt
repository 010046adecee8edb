-- Induction over trees.
use Rattle.std.proofs.Common.{sym, subst, List, [], ◌∷◌, map}
use Rattle.c_terms.specs.declared.token.Token.{Token}
use Rattle.c_terms.specs.declared.label.Label.{Label}
use Rattle.c_terms.specs.declared.tree.Tree.{Tree}
use Rattle.c_terms.specs.declared.tree.Tree.TheOpen.{Tree-F}
use Rattle.c_terms.specs.declared.tree.Tree.TheViews.{roll-Tree}
use Rattle.c_terms.specs.declared.tree.Tree.TheVariants.{Leaf, Branch, rolls-Leaf, rolls-Branch}
use Rattle.c_terms.specs.declared.tree.Tree.TheFolds.{ind-Tree, claims, map-Tree}
use Rattle.c_terms.specs.declared.tree.Tree.TheBlock.{the_family, member-Tree}
use denote.Hole.Holds.{Such}

abbrev pub Each : (Tree → Type 0) → List Tree → Type 0
Each P [] = Unit {0}
Each P (c ∷ cs) = P c × Each P cs

abbrev Known : (Tree → Type 0) → Type 0
Known P = Such the_family (claims P) member-Tree

known : (P : Tree → Type 0) (es : List (Known P)) → Each P (map (λ e. e.0) es)
known P [] = tt
known P (e ∷ es) = (e.1, known P es)

layer : (P : Tree → Type 0) → ((t : Token) → P (Leaf t)) → ((l : Label) (cs : List Tree) → Each P cs → P (Branch l cs))
    → (y : Tree-F (Known P)) → P (roll-Tree (map-Tree (Known P) Tree (λ e. e.0) y))
layer P leaf branch (Tree-F.Leaf t) = subst P (sym (rolls-Leaf t)) (leaf t)
layer P leaf branch (Tree-F.Branch l es) = subst P (sym (rolls-Branch l (map (λ e. e.0) es))) (branch l (map (λ e. e.0) es) (known P es))

pub tree_induction : (P : Tree → Type 0) → ((t : Token) → P (Leaf t)) → ((l : Label) (cs : List Tree) → Each P cs → P (Branch l cs)) → (t : Tree) → P t
tree_induction P leaf branch = ind-Tree P (λ x y e. subst (λ z. P (roll-Tree z)) e (layer P leaf branch y))

-- a tree is a leaf or a branch
pub tree_cases : (P : Tree → Type 0) → ((t : Token) → P (Leaf t)) → ((l : Label) (cs : List Tree) → P (Branch l cs)) → (t : Tree) → P t
tree_cases P leaf branch = tree_induction P leaf (λ l cs e. branch l cs)
