-- Which expressions a metavariable wants, at their places.
use Rattle.std.specs.Prelude.{ℕ, zero, suc, Bool, true, false, ◌&&◌, Option, None, Some}
use Rattle.std.specs.Option.{option_map_or}
use Rattle.c_terms.specs.declared.tree.Tree.{Tree, out-Tree}
use Rattle.c_terms.specs.declared.tree.Tree.TheOpen.{Tree-F}
use Rattle.c_types.specs.declared.ty.Ty.{Ty}
use Rattle.c_types.specs.Types.{same_type, element}
use Rattle.c_types.specs.Tables.{ItemTypes, type_in, is_local, is_name_kind}
use Rattle.smpl_patch.specs.declared.wanted.NameWanted.{NameWanted}
use Rattle.smpl_patch.specs.declared.wanted.NameWanted.TheVariants as names
use Rattle.smpl_patch.specs.declared.wanted.TypeWanted.{TypeWanted}
use Rattle.smpl_patch.specs.declared.wanted.TypeWanted.TheVariants as types
use Rattle.smpl_patch.specs.declared.wanted.Wanted.{Wanted}

abbrev pub is_name : Tree-F Tree → Bool
is_name (Tree-F.Leaf a) = is_name_kind a.kind
is_name (Tree-F.Branch l cs) = false

abbrev pub is_name_wanted : ItemTypes → NameWanted → Tree → Bool
is_name_wanted known names.Any t = true
is_name_wanted known names.Name t = is_name (out-Tree t)
is_name_wanted known names.Local t = is_local known t

-- the type is that many times a pointer to something, or an array of it
abbrev pub is_pointer : ℕ → Ty → Bool
is_pointer zero ty = true
is_pointer (suc n) ty = option_map_or (is_pointer n) (element ty) false

-- an expression whose type isn't known is wanted only if no type is
abbrev pub is_type_wanted : TypeWanted → Option Ty → Bool
is_type_wanted types.Any found = true
is_type_wanted (types.Is ty) None = false
is_type_wanted (types.Is ty) (Some found) = same_type ty found
is_type_wanted (types.Pointer n) None = false
is_type_wanted (types.Pointer n) (Some found) = is_pointer n found

-- the subtree of an item, given what is known of the item's expressions, is what the metavariable wants
abbrev pub is_wanted : ItemTypes → Wanted → Tree → Bool
is_wanted known w t = is_name_wanted known w.name t && is_type_wanted w.ty (type_in known t)
