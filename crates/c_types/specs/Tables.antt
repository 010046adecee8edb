-- The types of the expressions of an item, found by the expressions themselves.
use Rattle.std.specs.Prelude.{ℕ, Bool, true, false, ◌&&◌, nat_eq, List, [], ◌∷◌, ◌++◌, fold, Option, None, Some, if◌then◌else◌}
use Rattle.std.specs.List.{list_any}
use Rattle.c_terms.specs.declared.token.Token.{Token}
use Rattle.c_terms.specs.declared.token.TokenKind.{TokenKind}
use Rattle.c_terms.specs.declared.token.TokenKind.TheVariants as kind
use Rattle.c_terms.specs.declared.tree.Tree.{Tree, out-Tree}
use Rattle.c_terms.specs.declared.tree.Tree.TheOpen.{Tree-F}
use Rattle.c_types.specs.declared.ty.Ty.{Ty}
use Rattle.c_types.specs.declared.tree_key.TreeKey.{TreeKey}
use Rattle.c_types.specs.TreeKeys.{key_of, same_key}

-- an expression of an item, and its type
pub record TypedTree : Type 0 where
  pub key : TreeKey
  pub ty : Ty

-- what is known of the expressions of an item: those that have a type, and the ids of the names that the item itself declares
pub record ItemTypes : Type 0 where
  pub trees : List TypedTree
  pub locals : List ℕ

abbrev pub no_types : ItemTypes
no_types = record { trees = []; locals = [] }

abbrev pub types_or_none : Option ItemTypes → ItemTypes
types_or_none None = no_types
types_or_none (Some types) = types

abbrev pub type_at : List TypedTree → TreeKey → Option Ty
type_at [] key = None
type_at (t ∷ ts) key = if same_key key t.key then Some t.ty else type_at ts key

-- the type of a subtree of the item, if it is an expression that has one
abbrev pub type_in : ItemTypes → Tree → Option Ty
type_in types t = type_at types.trees (key_of t)

abbrev pub is_name_kind : TokenKind → Bool
is_name_kind kind.Name = true
is_name_kind _ = false

abbrev pub has_id : List ℕ → ℕ → Bool
has_id ids id = list_any (nat_eq id) ids

abbrev pub has_local : ItemTypes → Token → Bool
has_local types a = is_name_kind a.kind && has_id types.locals a.id

abbrev pub is_local_in : ItemTypes → Tree-F Tree → Bool
is_local_in types (Tree-F.Leaf a) = has_local types a
is_local_in types (Tree-F.Branch l cs) = false

-- the subtree is a name that the item itself declares
abbrev pub is_local : ItemTypes → Tree → Bool
is_local types t = is_local_in types (out-Tree t)

-- a new expression is added at the end, and one that is there changes nothing
abbrev pub with_typed : List TypedTree → TypedTree → List TypedTree
with_typed ts t = if list_any (λ u. same_key t.key u.key) ts then ts else ts ++ t ∷ []

-- an expression that has no type changes nothing
abbrev pub with_type : List TypedTree → TreeKey → Option Ty → List TypedTree
with_type ts key None = ts
with_type ts key (Some ty) = with_typed ts (record { key = key; ty = ty })

abbrev pub with_all : List TypedTree → List TypedTree → List TypedTree
with_all ts us = fold with_typed ts us

abbrev pub with_id : List ℕ → ℕ → List ℕ
with_id ids id = if has_id ids id then ids else ids ++ id ∷ []

abbrev pub with_ids : List ℕ → List ℕ → List ℕ
with_ids ids more = fold with_id ids more

-- the keys at which there is a type
abbrev pub typed : List TreeKey → List (Option Ty) → List TypedTree
typed [] types = []
typed (key ∷ keys) [] = []
typed (key ∷ keys) (None ∷ types) = typed keys types
typed (key ∷ keys) (Some ty ∷ types) = record { key = key; ty = ty } ∷ typed keys types

abbrev pub trees_of : List (TreeKey × Ty) → List TypedTree
trees_of [] = []
trees_of (e ∷ es) = record { key = e.0; ty = e.1 } ∷ trees_of es
