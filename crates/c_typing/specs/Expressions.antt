-- The type of an expression, given the types of its parts (6.5).
use Rattle.std.specs.Prelude.{ℕ, Bool, ◌||◌, List, [], ◌∷◌, Option, None, Some, slice_get, codes, if◌then◌else◌}
use Rattle.std.specs.Option.{option_and_then, option_flatten}
use Rattle.c_terms.specs.declared.label.Label.{Label}
use Rattle.c_terms.specs.declared.label.Label.TheVariants as label
use Rattle.c_terms.specs.declared.tree.Tree.{Tree}
use Rattle.c_terms.specs.Same.{same_bytes}
use Rattle.c_types.specs.declared.ty.Ty.{Ty, out-Ty}
use Rattle.c_types.specs.declared.ty.Ty.TheOpen.{Ty-F}
use Rattle.c_types.specs.declared.ty.Ty.TheVariants.{Basic, Named, Ptr}
use Rattle.c_types.specs.Types.{element, target, called, same_type}
use Rattle.c_typing.specs.Base.{kids, text_at}
use Rattle.c_typing.specs.Declarators.{declared}
use Rattle.c_typing.specs.Fields.{Field, field_type}

-- the type of child i, if it has one
abbrev pub type_at : List (Option Ty) → ℕ → Option Ty
type_at types i = option_flatten (slice_get types i)

abbrev pub int_type : Option Ty
int_type = Some (Basic (codes "int" ∷ []))

abbrev pub size_type : Option Ty
size_type = Some (Named (codes "size_t"))

abbrev pub member_in : List Field → Ty-F Ty → List ℕ → Option Ty
member_in fields (Ty-F.Tag is_union tag) name = option_flatten (field_type fields is_union tag name)
member_in fields _ name = None

-- the type of a field of a structure or union of this type
abbrev pub member_type : List Field → Option Ty → List ℕ → Option Ty
member_type fields None name = None
member_type fields (Some t) name = member_in fields (out-Ty t) name

-- the type of both, if they have the same
abbrev pub common : Option Ty → Option Ty → Option Ty
common None b = None
common (Some x) None = None
common (Some x) (Some y) = if same_type x y then Some x else None

-- `*e` and `&e`
abbrev pub operand_type : List ℕ → Ty → Option Ty
operand_type sign t = if same_bytes sign (codes "*") then element t else if same_bytes sign (codes "&") then Some (Ptr t) else None

abbrev pub unary_type : List ℕ → Option Ty → Option Ty
unary_type sign t = if same_bytes sign (codes "!") then int_type else option_and_then (operand_type sign) t

-- the signs of operations that answer yes or no
abbrev pub is_test : List ℕ → Bool
is_test sign =
    same_bytes sign (codes "&&") || (same_bytes sign (codes "||") || (same_bytes sign (codes "==") || (same_bytes sign (codes "!=")
    || (same_bytes sign (codes "<") || (same_bytes sign (codes ">") || (same_bytes sign (codes "<=") || same_bytes sign (codes ">=")))))))

abbrev pub binary_type : List ℕ → Option Ty
binary_type sign = if is_test sign then int_type else None

abbrev pub named_by : List Tree → Option Ty
named_by [] = None
named_by (specs ∷ more) = declared specs (slice_get more 0)

-- the type that a type name names
abbrev pub type_named : Option Tree → Option Ty
type_named None = None
type_named (Some name) = named_by (kids name)

module _ (fields : List Field) where
  -- one row for each expression with a type, given its children and their types
  abbrev pub branch_type : Label → List Tree → List (Option Ty) → Option Ty
  branch_type label.PostOp cs ts = type_at ts 0
  branch_type label.Assign cs ts = type_at ts 0
  branch_type label.Paren cs ts = type_at ts 1
  branch_type label.PreOp cs ts = type_at ts 1
  branch_type label.Comma cs ts = type_at ts 2
  branch_type label.Index cs ts = option_and_then element (type_at ts 0)
  branch_type label.Call cs ts = option_and_then called (type_at ts 0)
  branch_type label.Member cs ts = member_type fields (type_at ts 0) (text_at cs 2)
  branch_type label.Arrow cs ts = member_type fields (option_and_then target (type_at ts 0)) (text_at cs 2)
  branch_type label.Cond cs ts = common (type_at ts 2) (type_at ts 4)
  branch_type label.Unary cs ts = unary_type (text_at cs 0) (type_at ts 1)
  branch_type label.Binary cs ts = binary_type (text_at cs 1)
  branch_type label.Cast cs ts = type_named (slice_get cs 1)
  branch_type label.Literal cs ts = type_named (slice_get cs 1)
  branch_type label.SizeofExpr cs ts = size_type
  branch_type label.SizeofType cs ts = size_type
  branch_type _ cs ts = None
