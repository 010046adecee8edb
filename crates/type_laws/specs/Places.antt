-- The ids of the tokens of an item, and whether an expression is a local name by its place.
use Rattle.std.specs.Prelude.{ℕ, Bool, false, List, map}
use Rattle.c_terms.specs.declared.token.Token.{Token}
use Rattle.c_terms.specs.declared.tree.Tree.{Tree, out-Tree}
use Rattle.c_terms.specs.declared.tree.Tree.TheOpen.{Tree-F}
use Rattle.c_terms.specs.Trees.{leaves}
use Rattle.c_terms.specs.Places.{Place}
use Rattle.c_typing.specs.declared.binding.Binding.{Binding}
use Rattle.c_typing.specs.Parts.{declared_around}
use Rattle.c_typing.specs.Locals.{is_declared}

-- the ids of the tokens, from left to right
abbrev pub ids : Tree → List ℕ
ids t = map (λ (a : Token). a.id) (leaves t)

abbrev pub is_local_in : List Binding → Tree-F Tree → Bool
is_local_in names (Tree-F.Leaf a) = is_declared names a
is_local_in names (Tree-F.Branch l cs) = false

-- the expression at this place is a name that the item declares around the place
abbrev pub is_local_at : Tree → Place → Bool
is_local_at item p = is_local_in (declared_around item p.path) (out-Tree p.tree)
