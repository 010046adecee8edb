-- The type of an expression at its place.
use Rattle.std.specs.Prelude.{ℕ, Bool, List, [], ◌∷◌, ◌++◌, map, take, Option, None, if◌then◌else◌}
use Rattle.std.specs.Option.{option_map_or, option_flatten}
use Rattle.c_terms.specs.declared.token.Token.{Token}
use Rattle.c_terms.specs.declared.tree.Tree.{Tree, out-Tree}
use Rattle.c_terms.specs.declared.tree.Tree.TheOpen.{Tree-F}
use Rattle.c_terms.specs.declared.tree.Tree.TheVariants.{Leaf, Branch}
use Rattle.c_terms.specs.declared.tree.Tree.TheFolds.{fold-Tree}
use Rattle.c_terms.specs.Trees.{join}
use Rattle.c_terms.specs.Places.{Place, child, parts}
use Rattle.c_terms.specs.Shapes.{is_expression_part}
use Rattle.c_types.specs.declared.ty.Ty.{Ty}
use Rattle.c_typing.specs.declared.binding.Binding.{Binding}
use Rattle.c_types.specs.Tables.{is_name_kind}
use Rattle.c_typing.specs.Declarations.{declared_for_rest}
use Rattle.c_typing.specs.Names.{last_type}
use Rattle.c_typing.specs.Fields.{Field}
use Rattle.c_typing.specs.Expressions.{branch_type}

abbrev pub declared_before_in : Tree-F Tree → ℕ → List Binding
declared_before_in (Tree-F.Leaf token) i = []
declared_before_in (Tree-F.Branch l cs) i = join (map (declared_for_rest l) (take i cs))

-- what the children before child i declare for it
abbrev pub declared_before : Tree → ℕ → List Binding
declared_before t i = declared_before_in (out-Tree t) i

-- the names that are declared around the place with this path in a tree, outer ones first: those of each block, loop and list
-- of parameters in which the place is, as far as their declarations end before it
abbrev pub declared_around : Tree → List ℕ → List Binding
declared_around t [] = []
declared_around t (i ∷ path) = declared_before t i ++ option_map_or (λ c. declared_around c path) (child t i) []

-- a tree and its type as an expression
pub record Typed : Type 0 where
  pub tree : Tree
  pub ty : Option Ty

-- the type of a token, if it is a name
abbrev pub token_type : List Binding → Token → Option Ty
token_type names token = if is_name_kind token.kind then option_flatten (last_type names token.text) else None

module _ (names : List Binding) (fields : List Field) where
  abbrev pub type_step : Tree-F Typed → Typed
  type_step (Tree-F.Leaf token) = record { tree = Leaf token; ty = token_type names token }
  type_step (Tree-F.Branch l ks) = record {
    tree = Branch l (map (λ k. k.tree) ks);
    ty = branch_type fields l (map (λ k. k.tree) ks) (map (λ k. k.ty) ks);
  }

  -- the type of an expression at a place where these names are seen. No expression declares a name for its parts that matter
  -- here, so they see the same names
  abbrev pub type_of : Tree → Option Ty
  type_of t = (fold-Tree Typed type_step t).ty

-- the type of a part of a tree around which these names are seen
abbrev pub part_type : List Binding → List Field → Tree → Place → Option Ty
part_type names fields t p = type_of (names ++ declared_around t p.path) fields p.tree

-- for each expression in a tree, by place, its type or none
abbrev pub part_types : List Binding → List Field → Tree → List (Option Ty)
part_types names fields t = map (part_type names fields t) (parts is_expression_part t)

-- the types of a child that may be an expression itself, and of those in it
abbrev pub child_types : Bool → List Binding → List Field → Tree → List (Option Ty)
child_types is_part names fields c = (if is_part then type_of names fields c ∷ [] else []) ++ part_types names fields c
