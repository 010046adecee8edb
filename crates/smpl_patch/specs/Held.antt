-- Which parts of a form are compared at a node: of a head and of the tail of `do`, only their own tokens.
use Rattle.std.specs.Prelude.{ℕ, suc, Bool, true, false, not, ◌&&◌, if◌then◌else◌, List, [], ◌∷◌, length}
use Rattle.c_terms.specs.declared.label.Label.{Label}
use Rattle.c_terms.specs.declared.tree.Tree.{Tree, out-Tree}
use Rattle.c_terms.specs.declared.tree.Tree.TheOpen.{Tree-F}
use Rattle.c_terms.specs.Shapes.{is_head_label, is_body, is_tail}
use Rattle.smpl_patch.specs.declared.pattern.Spot.{Spot}
use Rattle.smpl_patch.specs.declared.pattern.Spot.TheVariants as spot

-- whether only some children of a branch with this label are compared
abbrev pub is_split_into_nodes : Spot → Label → Bool
is_split_into_nodes spot.Whole l = is_head_label l
is_split_into_nodes spot.Tail l = true
is_split_into_nodes spot.Inside l = false

-- whether child i of n is compared: of a head or of a tail, only their own children are
abbrev pub is_held : Spot → Label → (n i : ℕ) → Bool
is_held spot.Whole l n i = not (is_body l n i) && not (is_tail l i)
is_held spot.Tail l n i = is_tail l i
is_held spot.Inside l n i = true

-- the trees whose numbers pass the test; the first tree has the number i
abbrev pub kept : (ℕ → Bool) → ℕ → List Tree → List Tree
kept test i [] = []
kept test i (t ∷ ts) = if test i then t ∷ kept test (suc i) ts else kept test (suc i) ts

abbrev pub held_at : Spot → Tree-F Tree → Tree → List Tree
held_at s (Tree-F.Leaf a) form = form ∷ []
held_at s (Tree-F.Branch l cs) form = if is_split_into_nodes s l then kept (is_held s l (length cs)) 0 cs else form ∷ []

-- the trees of a form that are compared
abbrev pub held : Spot → Tree → List Tree
held s form = held_at s (out-Tree form) form
