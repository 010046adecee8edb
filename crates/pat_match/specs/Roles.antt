-- The role of a node for the forms that are matched against it: which of the blocks is a function's own.
use Rattle.std.specs.Prelude.{ℕ, Bool, true, false, ◌&&◌, not, nat_eq, List, length}
use Rattle.c_terms.specs.declared.tree.Tree.{Tree, out-Tree}
use Rattle.c_terms.specs.declared.tree.Tree.TheOpen.{Tree-F}
use Rattle.cfg_build.specs.declared.cfg_graph.label.NodeKind.{NodeKind}
use Rattle.cfg_build.specs.declared.cfg_graph.label.NodeKind.TheVariants as kind
use Rattle.cfg_build.specs.declared.cfg_graph.label.NodeLabel.{NodeLabel}
use Rattle.smpl_patch.specs.Patterns.{is_statement_token}
use Rattle.pat_match.specs.declared.role.NodeRole.{NodeRole}

-- the block at this path is a function's own: a child of the item, whereas every other block is deeper
abbrev pub is_outermost : NodeKind → List ℕ → Bool
is_outermost kind.OpenBrace path = nat_eq (length path) 1
is_outermost _ path = false

abbrev pub role_at : NodeKind → List ℕ → NodeRole
role_at k path = record { kind = k; outermost = is_outermost k path }

abbrev pub role_of : NodeLabel → NodeRole
role_of n = role_at n.kind n.path

abbrev pub is_statement_variable : Tree-F Tree → Bool
is_statement_variable (Tree-F.Leaf a) = is_statement_token a.kind
is_statement_variable (Tree-F.Branch l cs) = false

-- a statement variable matches no function's own block
abbrev pub may_stand : NodeRole → Tree → Bool
may_stand r form = not (r.outermost && is_statement_variable (out-Tree form))
