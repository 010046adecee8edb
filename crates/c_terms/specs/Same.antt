-- When two trees are the same term: equal except for the ids of their tokens.
use Rattle.std.specs.Prelude.{ℕ, Bool, true, false, ◌&&◌, eqb, List, [], ◌∷◌}
use Rattle.c_terms.specs.declared.token.Token.{Token}
use Rattle.c_terms.specs.declared.label.Label.{Label}
use Rattle.c_terms.specs.declared.tree.Tree.{Tree, out-Tree}
use Rattle.c_terms.specs.declared.tree.Tree.TheOpen.{Tree-F}
use Rattle.c_terms.specs.declared.tree.Tree.TheFolds.{fold-Tree}
pub use Rattle.c_terms.specs.Numbers.{kind_number, label_number}

abbrev pub same_bytes : List ℕ → List ℕ → Bool
same_bytes [] [] = true
same_bytes [] (y ∷ ys) = false
same_bytes (x ∷ xs) [] = false
same_bytes (x ∷ xs) (y ∷ ys) = eqb x y && same_bytes xs ys

abbrev pub same_label : Label → Label → Bool
same_label l k = eqb (label_number l) (label_number k)

-- equal except for the id
abbrev pub same_token : Token → Token → Bool
same_token a b = eqb (kind_number a.kind) (kind_number b.kind) && same_bytes a.text b.text

-- one test for each tree, in order
abbrev pub all_pass : List (Tree → Bool) → List Tree → Bool
all_pass [] [] = true
all_pass [] (t ∷ ts) = false
all_pass (f ∷ fs) [] = false
all_pass (f ∷ fs) (t ∷ ts) = f t && all_pass fs ts

abbrev pub same_at : Tree-F (Tree → Bool) → Tree-F Tree → Bool
same_at (Tree-F.Leaf a) (Tree-F.Leaf b) = same_token a b
same_at (Tree-F.Leaf a) (Tree-F.Branch k us) = false
same_at (Tree-F.Branch l fs) (Tree-F.Leaf b) = false
same_at (Tree-F.Branch l fs) (Tree-F.Branch k us) = same_label l k && all_pass fs us

abbrev pub same_step : Tree-F (Tree → Bool) → Tree → Bool
same_step layer u = same_at layer (out-Tree u)

-- leaves by kind and bytes, branches by label and children one by one
abbrev pub same_tree : Tree → Tree → Bool
same_tree = fold-Tree (Tree → Bool) same_step
