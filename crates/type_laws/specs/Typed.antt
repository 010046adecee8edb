-- Which expressions have a type at their place, and variables that want expressions of a type.
use Rattle.std.specs.Prelude.{ℕ, ◌≡◌, ◌++◌, Some, slice_get}
use Rattle.c_terms.specs.declared.tree.Tree.{Tree}
use Rattle.c_terms.specs.Places.{Place, parts}
use Rattle.c_terms.specs.Shapes.{is_expression_part}
use Rattle.c_types.specs.declared.ty.Ty.{Ty}
use Rattle.c_typing.specs.declared.scope.Scope.{Scope}
use Rattle.c_typing.specs.Declarations.{own_name}
use Rattle.c_typing.specs.Parts.{part_type}
use Rattle.smpl_patch.specs.declared.pattern.VarDecl.{VarDecl}
use Rattle.smpl_patch.specs.declared.wanted.NameWanted.TheVariants as name
use Rattle.smpl_patch.specs.declared.wanted.TypeWanted.TheVariants as type
use Rattle.smpl_patch.specs.declared.wanted.Wanted.{Wanted}

-- an expression of the item is at this place
abbrev pub IsExpressionAt : Tree → Place → Type 0
IsExpressionAt item p = (k : ℕ) × (slice_get (parts is_expression_part item) k ≡ Some p)

-- An expression of the item is at this place, and has the type there: what is declared in the scope, for the item itself and
-- around the place gives it.
abbrev pub HasType : Scope → Tree → Place → Ty → Type 0
HasType s item p ty = IsExpressionAt item p × (part_type (s.names ++ own_name item) s.fields item p ≡ Some ty)

-- an expression of this type is wanted
abbrev pub of_type : Ty → Wanted
of_type ty = record { name = name.Any; ty = type.Is ty }

-- an expression is wanted that is that many times a pointer to something
abbrev pub of_pointers : ℕ → Wanted
of_pointers n = record { name = name.Any; ty = type.Pointer n }

-- the variable, if no type is wanted of it
abbrev pub without_type : VarDecl → VarDecl
without_type d = record d { wanted = record d.wanted { ty = type.Any } }
