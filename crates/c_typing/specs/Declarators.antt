-- Declarators: the name in one, and the type that it makes of the type that the specifiers name (6.7.6).
use Rattle.std.specs.Prelude.{ℕ, ◌-◌, List, map, length, Option, None, Some, slice_get, if◌then◌else◌}
use Rattle.std.specs.Option.{option_map, option_flatten, option_or}
use Rattle.c_terms.specs.declared.label.Label.{Label}
use Rattle.c_terms.specs.declared.label.Label.TheVariants as label
use Rattle.c_terms.specs.declared.token.Token.{Token}
use Rattle.c_terms.specs.declared.tree.Tree.{Tree}
use Rattle.c_terms.specs.declared.tree.Tree.TheOpen.{Tree-F}
use Rattle.c_terms.specs.declared.tree.Tree.TheVariants.{Leaf, Branch}
use Rattle.c_terms.specs.declared.tree.Tree.TheFolds.{fold-Tree}
use Rattle.c_types.specs.declared.ty.Ty.{Ty}
use Rattle.c_types.specs.declared.ty.Ty.TheVariants.{Ptr, Array, Fun}
use Rattle.c_typing.specs.Base.{name, base_type}
use Rattle.c_types.specs.Tables.{is_name_kind}

-- of what is known of each child, what is known of the inner declarator: `d` in `*const d`, `(d)`, `d[3]`, `d(int x)`, `d = 1`
-- and `d : 3`
abbrev pub inner : {A : Type 0} → Label → List A → Option A
inner label.Pointer cs = slice_get cs (length cs - 1)
inner label.DParen cs = slice_get cs 1
inner label.DArray cs = slice_get cs 0
inner label.DFun cs = slice_get cs 0
inner label.InitDecl cs = slice_get cs 0
inner label.Bits cs = slice_get cs 0
inner _ cs = None

abbrev pub name_step : Tree-F (Option (List ℕ)) → Option (List ℕ)
name_step (Tree-F.Leaf token) = name (Leaf token)
name_step (Tree-F.Branch l names) = option_flatten (inner l names)

-- the name that a declarator declares
abbrev pub declared_name : Tree → Option (List ℕ)
declared_name = fold-Tree (Option (List ℕ)) name_step

abbrev pub name_token_step : Tree-F (Option Token) → Option Token
name_token_step (Tree-F.Leaf token) = if is_name_kind token.kind then Some token else None
name_token_step (Tree-F.Branch l names) = option_flatten (inner l names)

-- the token of the name that a declarator declares
abbrev pub declared_token : Tree → Option Token
declared_token = fold-Tree (Option Token) name_token_step

-- what one part of a declarator makes of a type
abbrev pub derived : Label → Ty → Ty
derived label.Pointer t = Ptr t
derived label.DArray t = Array t
derived label.DFun t = Fun t
derived _ t = t

abbrev pub apply_to : {A : Type 0} → Option (A → A) → A → A
apply_to None a = a
apply_to (Some f) a = f a

abbrev pub shape_step : Tree-F (Ty → Ty) → Ty → Ty
shape_step (Tree-F.Leaf token) t = t
shape_step (Tree-F.Branch l shapes) t = apply_to (inner l shapes) (derived l t)

-- what a declarator makes of a type: each part changes it in turn, from the outermost to the name
abbrev pub shaped : Tree → Ty → Ty
shaped = fold-Tree (Ty → Ty) shape_step

abbrev pub shaped_by : Option Tree → Ty → Ty
shaped_by None t = t
shaped_by (Some d) t = shaped d t

-- the type that these specifiers and this declarator give
abbrev pub declared : Tree → Option Tree → Option Ty
declared specs declarator = option_map (shaped_by declarator) (base_type specs)

-- a tree, and the innermost list of parameters in it as a declarator
pub record Lists : Type 0 where
  pub tree : Tree
  pub params : Option Tree

-- the list of parameters of `d(int x)`
abbrev pub own_params : Label → List Tree → Option Tree
own_params label.DFun cs = slice_get cs (length cs - 2)
own_params _ cs = None

abbrev pub lists_step : Tree-F Lists → Lists
lists_step (Tree-F.Leaf token) = record { tree = Leaf token; params = None }
lists_step (Tree-F.Branch l ks) = record {
  tree = Branch l (map (λ k. k.tree) ks);
  params = option_or (option_flatten (inner l (map (λ k. k.params) ks))) (own_params l (map (λ k. k.tree) ks));
}

-- the list of parameters next to the name in a declarator
abbrev pub function_params : Tree → Option Tree
function_params t = (fold-Tree Lists lists_step t).params
