-- The names of an item that the item itself declares.
use Rattle.std.specs.Prelude.{ℕ, Bool, ◌&&◌, List, [], ◌∷◌, ◌++◌, if◌then◌else◌}
use Rattle.std.specs.Option.{is_some}
use Rattle.std.specs.List.{flat_map}
use Rattle.c_terms.specs.declared.token.Token.{Token}
use Rattle.c_terms.specs.declared.tree.Tree.{Tree, out-Tree}
use Rattle.c_terms.specs.declared.tree.Tree.TheOpen.{Tree-F}
use Rattle.c_terms.specs.Places.{Place, parts}
use Rattle.c_terms.specs.Shapes.{is_expression_part}
use Rattle.c_typing.specs.declared.binding.Binding.{Binding}
use Rattle.c_types.specs.Tables.{is_name_kind}
use Rattle.c_typing.specs.Names.{last_type}
use Rattle.c_typing.specs.Parts.{declared_around}

-- the token is a name that one of these declarations declares
abbrev pub is_declared : List Binding → Token → Bool
is_declared names a = is_name_kind a.kind && is_some (last_type names a.text)

abbrev pub local_in : List Binding → Tree-F Tree → List ℕ
local_in names (Tree-F.Leaf a) = if is_declared names a then a.id ∷ [] else []
local_in names (Tree-F.Branch l cs) = []

-- the id of an expression that is a name which one of these declarations declares
abbrev pub local : List Binding → Tree → List ℕ
local names t = local_in names (out-Tree t)

-- the ids of the local names in a tree around which these names are declared in the item
abbrev pub locals_under : List Binding → Tree → List ℕ
locals_under names t = flat_map (λ (p : Place). local (names ++ declared_around t p.path) p.tree) (parts is_expression_part t)

-- those of a child that may be an expression itself, and of those in it
abbrev pub child_locals : Bool → List Binding → Tree → List ℕ
child_locals is_part names c = (if is_part then local names c else []) ++ locals_under names c

-- the ids of the names of an item that a declaration in the item declares, by place
abbrev pub local_names : Tree → List ℕ
local_names item = locals_under [] item
