-- The fields of structures and unions (6.7.2.1).
use Rattle.std.specs.Prelude.{ℕ, suc, Bool, true, false, ◌&&◌, nat_eq, List, [], ◌∷◌, ◌++◌, map, fold, Option, None, Some, codes, if◌then◌else◌}
use Rattle.std.specs.List.{list_any}
use Rattle.std.specs.Bool.{beq}
use Rattle.std.specs.Ordering.{on, eq_of_both}
use Rattle.std.specs.Cmp.Lexicographic.{pointwise}
use Rattle.std.specs.Hash as fed
use Rattle.c_terms.specs.declared.label.Label.{Label}
use Rattle.c_terms.specs.declared.label.Label.TheVariants as label
use Rattle.c_terms.specs.declared.tree.Tree.{Tree, out-Tree}
use Rattle.c_terms.specs.declared.tree.Tree.TheOpen.{Tree-F}
use Rattle.c_terms.specs.declared.tree.Tree.TheVariants.{Leaf, Branch}
use Rattle.c_terms.specs.declared.tree.Tree.TheFolds.{fold-Tree}
use Rattle.c_terms.specs.Same.{same_bytes}
use Rattle.c_terms.specs.Trees.{join}
use Rattle.c_types.specs.declared.ty.Ty.{Ty}
use Rattle.c_typing.specs.declared.binding.Binding.{Binding}
use Rattle.c_typing.specs.declared.key.FieldKey.{FieldKey}
use Rattle.c_types.specs.Types.{same_flag}
use Rattle.c_typing.specs.Base.{is_word_at, name_at}
use Rattle.c_typing.specs.Declarations.{declared_by}

-- a field: whether it is one of a union, the tag, the name and the type
pub record Field : Type 0 where
  pub is_union : Bool
  pub tag : List ℕ
  pub name : List ℕ
  pub ty : Option Ty

abbrev pub is_field : Bool → List ℕ → List ℕ → Field → Bool
is_field is_union tag name f = same_flag is_union f.is_union && (same_bytes tag f.tag && same_bytes name f.name)

-- the type of the field, by its first declaration: nothing if there is none, and `Some None` if its type isn't known
abbrev pub field_type : List Field → Bool → List ℕ → List ℕ → Option (Option Ty)
field_type [] is_union tag name = None
field_type (f ∷ fs) is_union tag name = if is_field is_union tag name f then Some f.ty else field_type fs is_union tag name

-- a new field is added at the end, and one that is there changes nothing
abbrev pub with_field : List Field → Field → List Field
with_field fs f = if list_any (is_field f.is_union f.tag f.name) fs then fs else fs ++ f ∷ []

abbrev pub with_fields : List Field → List Field → List Field
with_fields fs gs = fold with_field fs gs

abbrev pub field_of : Bool → List ℕ → Binding → Field
field_of is_union tag b = record { is_union = is_union; tag = tag; name = b.name; ty = b.ty }

abbrev pub declared_by_row : Bool → List ℕ → Label → List Tree → List Field
declared_by_row is_union tag label.Field cs = map (field_of is_union tag) (declared_by cs)
declared_by_row is_union tag _ cs = []

abbrev pub declared_in : Bool → List ℕ → Tree-F Tree → List Field
declared_in is_union tag (Tree-F.Leaf token) = []
declared_in is_union tag (Tree-F.Branch l cs) = declared_by_row is_union tag l cs

-- the fields that one row of a structure with this tag declares
abbrev pub declared_fields : Bool → List ℕ → Tree → List Field
declared_fields is_union tag t = declared_in is_union tag (out-Tree t)

abbrev pub tagged_fields : Option (List ℕ) → Bool → List Tree → List Field
tagged_fields None is_union cs = []
tagged_fields (Some tag) is_union cs = join (map (declared_fields is_union tag) cs)

-- the fields of a structure's own rows, if it has a tag
abbrev pub own_fields : Label → List Tree → List Field
own_fields label.StructDef cs = tagged_fields (name_at cs 1) (is_word_at (codes "union") cs 0) cs
own_fields _ cs = []

-- whether structures in child i belong to the specifiers
abbrev pub may_define : Label → ℕ → Bool
may_define label.Specs i = true
may_define label.StructDef i = true
may_define label.Field i = nat_eq i 0
may_define _ i = false

-- a tree, and the fields that it declares
pub record Declared : Type 0 where
  pub tree : Tree
  pub fields : List Field

abbrev pub inner_fields : Label → ℕ → List Declared → List Field
inner_fields l i [] = []
inner_fields l i (d ∷ ds) = (if may_define l i then d.fields else []) ++ inner_fields l (suc i) ds

abbrev pub fields_step : Tree-F Declared → Declared
fields_step (Tree-F.Leaf token) = record { tree = Leaf token; fields = [] }
fields_step (Tree-F.Branch l ds) = record {
  tree = Branch l (map (λ d. d.tree) ds);
  fields = own_fields l (map (λ d. d.tree) ds) ++ inner_fields l 0 ds;
}

-- the fields of all structures and unions with a tag in the specifiers, those of a structure before those of the structures in
-- its rows
abbrev pub fields_in : Tree → List Field
fields_in t = (fold-Tree Declared fields_step t).fields

-- keys of the map in which fields are looked up
abbrev pub same_key : FieldKey → FieldKey → Bool
same_key = eq_of_both (on (λ k. k.is_union) beq) (eq_of_both (on (λ k. k.tag) (pointwise nat_eq)) (on (λ k. k.name) (pointwise nat_eq)))

abbrev pub key_input : FieldKey → fed.HashWrites
key_input k = fed.bool k.is_union ++ fed.slice fed.u8 k.tag ++ fed.slice fed.u8 k.name

abbrev pub field_at : FieldKey × Option Ty → Field
field_at e = record { is_union = e.0.is_union; tag = e.0.tag; name = e.0.name; ty = e.1 }

abbrev pub fields_of_entries : List (FieldKey × Option Ty) → List Field
fields_of_entries es = map field_at es
