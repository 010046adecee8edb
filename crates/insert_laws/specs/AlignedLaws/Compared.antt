-- Tokens of the compared part of a form, and trees that have bodies.
use Rattle.std.specs.Prelude.{◌≡◌, Bool, true, false}
use Rattle.std.specs.List.{list_any}
use Rattle.c_terms.specs.declared.token.Token.{Token}
use Rattle.c_terms.specs.declared.tree.Tree.{Tree, out-Tree}
use Rattle.c_terms.specs.declared.tree.Tree.TheOpen.{Tree-F}
use Rattle.c_terms.specs.Shapes.{is_head_label}
use Rattle.c_terms.specs.Trees.{leaves}
use Rattle.cfg_build.specs.declared.cfg_graph.label.NodeKind.{NodeKind}
use Rattle.cfg_build.specs.declared.cfg_graph.label.NodeKind.TheVariants as kind
use Rattle.smpl_patch.specs.declared.pattern.Spot.{Spot}
use Rattle.smpl_patch.specs.declared.pattern.Spot.TheVariants as spot
use Rattle.smpl_patch.specs.Held.{held}
use Rattle.pat_match.specs.Runs.{Pair}

-- a token of the part of the form that is compared at the spot passes
abbrev pub compared : (Token → Bool) → Spot → Tree → Bool
compared q s form = list_any (λ t. list_any q (leaves t)) (held s form)

-- if the pattern token of the pair passes, so does a token of the compared part
abbrev pub IsCompared : (Token → Bool) → Spot → Tree → Pair → Type 0
IsCompared q s form pair = q pair.0 ≡ true → compared q s form ≡ true

abbrev pub is_head_at : Tree-F Tree → Bool
is_head_at (Tree-F.Leaf a) = false
is_head_at (Tree-F.Branch l cs) = is_head_label l

-- the tree is a statement with bodies, or a function
abbrev pub is_head_tree : Tree → Bool
is_head_tree t = is_head_at (out-Tree t)

-- a tree that a simple node holds as a whole is none with bodies
abbrev pub HasNoBodies : Spot → NodeKind → Tree → Type 0
HasNoBodies s k t = s ≡ spot.Whole → k ≡ kind.Simple → is_head_tree t ≡ false
