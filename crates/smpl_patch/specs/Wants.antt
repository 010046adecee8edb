-- What expressions must be for metavariables.
use Rattle.std.specs.Prelude.{Bool, true, false, not, ◌&&◌, ◌||◌, nat_eq, List}
use Rattle.std.specs.List.{list_any}
use Rattle.c_types.specs.Types.{same_type}
use Rattle.smpl_patch.specs.declared.wanted.NameWanted.{NameWanted}
use Rattle.smpl_patch.specs.declared.wanted.NameWanted.TheVariants as name
use Rattle.smpl_patch.specs.declared.wanted.TypeWanted.{TypeWanted}
use Rattle.smpl_patch.specs.declared.wanted.TypeWanted.TheVariants as type
use Rattle.smpl_patch.specs.declared.wanted.Wanted.{Wanted}
use Rattle.smpl_patch.specs.declared.pattern.VarDecl.{VarDecl}

-- what every expression is
abbrev pub anything : Wanted
anything = record { name = name.Any; ty = type.Any }

abbrev pub is_any_name : NameWanted → Bool
is_any_name name.Any = true
is_any_name _ = false

abbrev pub is_local_wanted : NameWanted → Bool
is_local_wanted name.Local = true
is_local_wanted _ = false

abbrev pub is_typed : TypeWanted → Bool
is_typed type.Any = false
is_typed _ = true

-- every expression is wanted
abbrev pub is_anything : Wanted → Bool
is_anything w = is_any_name w.name && not (is_typed w.ty)

-- it takes the types of an item to tell which of its expressions are wanted
abbrev pub asks_types : Wanted → Bool
asks_types w = is_local_wanted w.name || is_typed w.ty

abbrev pub same_name : NameWanted → NameWanted → Bool
same_name name.Any name.Any = true
same_name name.Name name.Name = true
same_name name.Local name.Local = true
same_name _ _ = false

abbrev pub same_wanted_type : TypeWanted → TypeWanted → Bool
same_wanted_type type.Any type.Any = true
same_wanted_type (type.Is s) (type.Is t) = same_type s t
same_wanted_type (type.Pointer n) (type.Pointer m) = nat_eq n m
same_wanted_type _ _ = false

-- the same expressions are wanted
abbrev pub same_wanted : Wanted → Wanted → Bool
same_wanted v w = same_name v.name w.name && same_wanted_type v.ty w.ty

-- one of the variables asks for types
abbrev pub ask_types : List VarDecl → Bool
ask_types decls = list_any (λ (d : VarDecl). asks_types d.wanted) decls
