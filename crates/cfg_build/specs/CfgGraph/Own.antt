-- The tokens of a label's tree that are its node's own. What belongs to other nodes is excluded: bodies, the statements of
-- a block, and the tail of `do`.
use Rattle.std.specs.Prelude.{ℕ, suc, ◌+◌, Bool, true, ◌&&◌, not, nat_eq, List, [], ◌∷◌, map, length, if◌then◌else◌}
use Rattle.c_terms.specs.declared.label.Label.{Label}
use Rattle.c_terms.specs.declared.token.Token.{Token}
use Rattle.c_terms.specs.declared.tree.Tree.{Tree, out-Tree}
use Rattle.c_terms.specs.declared.tree.Tree.TheOpen.{Tree-F}
use Rattle.c_terms.specs.Trees.{join, leaves}
use Rattle.c_terms.specs.Shapes.{is_body, is_tail}
use Rattle.cfg_build.specs.declared.cfg_graph.label.NodeKind.{NodeKind}
use Rattle.cfg_build.specs.declared.cfg_graph.label.NodeKind.TheVariants as kind
use Rattle.cfg_build.specs.declared.cfg_graph.label.NodeLabel.{NodeLabel}

-- whether child i of n is the node's own
abbrev pub is_own : NodeKind → Label → (n i : ℕ) → Bool
is_own kind.OpenBrace l n i = nat_eq i 0
is_own kind.CloseBrace l n i = nat_eq (i + 1) n
is_own kind.FunHead l n i = not (is_body l n i) && not (is_tail l i)
is_own kind.Head l n i = not (is_body l n i) && not (is_tail l i)
is_own kind.DoTail l n i = is_tail l i
is_own _ l n i = true

-- the children from number i on whose numbers pass the test
abbrev pub kept : (ℕ → Bool) → ℕ → List Tree → List Tree
kept test i [] = []
kept test i (c ∷ cs) = if test i then c ∷ kept test (suc i) cs else kept test (suc i) cs

abbrev pub own_in : NodeKind → Tree-F Tree → List Token
own_in k (Tree-F.Leaf token) = token ∷ []
own_in k (Tree-F.Branch l cs) = join (map leaves (kept (is_own k l (length cs)) 0 cs))

abbrev pub own_tokens : NodeLabel → List Token
own_tokens n = own_in n.kind (out-Tree n.tree)
