-- The definitions at small declarations and expressions, above all where they could be read in two ways.
use Rattle.std.proofs.Common.{◌≡◌, ℕ, true, false, refl, List, [], ◌∷◌, Option, None, Some}
use Rattle.std.specs.Prelude.{codes}
use Rattle.c_terms.specs.declared.token.TokenKind.{TokenKind}
use Rattle.c_terms.specs.declared.token.TokenKind.TheVariants as kind
use Rattle.c_terms.specs.declared.label.Label.TheVariants as label
use Rattle.c_terms.specs.declared.tree.Tree.{Tree}
use Rattle.c_terms.specs.declared.tree.Tree.TheVariants.{Leaf, Branch}
use Rattle.c_terms.proofs.SameLemmas.{out-Leaf, out-Branch}
use Rattle.c_types.specs.declared.ty.Ty.{Ty}
use Rattle.c_types.specs.declared.ty.Ty.TheVariants.{Basic, Named, Tag, Ptr, Array}
use Rattle.c_typing.specs.Base.{shortest, base_type}
use Rattle.c_typing.specs.Declarators.{declared, declared_name}
use Rattle.c_typing.specs.Names.{last_type}
use Rattle.c_typing.specs.Fields.{Field, field_type, with_field}
use Rattle.c_typing.specs.Expressions.{branch_type, binary_type}
use Rattle.c_typing.proofs.FoldLemmas.{name_leaf, name_branch, shaped_leaf, shaped_branch}

abbrev leaf : TokenKind → List ℕ → Tree
leaf k text = Leaf (record { kind = k; text = text; id = 0 })

abbrev word : List ℕ → Tree
word = leaf kind.Keyword

abbrev name : List ℕ → Tree
name = leaf kind.Name

abbrev punct : List ℕ → Tree
punct = leaf kind.Punct

abbrev pointer : Tree → Tree
pointer d = Branch label.Pointer (punct (codes "*") ∷ d ∷ [])

-- `int` and `signed` say nothing beside a size: `long signed int long` is `long long`
sizes_are_enough : shortest (codes "int" ∷ codes "long" ∷ codes "long" ∷ codes "signed" ∷ []) ≡ codes "long" ∷ codes "long" ∷ []
sizes_are_enough = refl

-- `signed` and `int signed` are `int`
signed_is_int : shortest (codes "signed" ∷ []) ≡ codes "int" ∷ []
signed_is_int = refl

signed_int_is_int : shortest (codes "int" ∷ codes "signed" ∷ []) ≡ codes "int" ∷ []
signed_int_is_int = refl

-- but `signed char` isn't `char`, and `signed signed` isn't `signed`
signed_char_stays : shortest (codes "char" ∷ codes "signed" ∷ []) ≡ codes "char" ∷ codes "signed" ∷ []
signed_char_stays = refl

repeats_stay : shortest (codes "signed" ∷ codes "signed" ∷ []) ≡ codes "signed" ∷ codes "signed" ∷ []
repeats_stay = refl

-- `unsigned int *y`
pointer_to_unsigned : declared (Branch label.Specs (word (codes "unsigned") ∷ word (codes "int") ∷ [])) (Some (pointer (name (codes "y"))))
    ≡ Some (Ptr (Basic (codes "unsigned" ∷ [])))
pointer_to_unsigned = simp (out-Branch, out-Leaf, shaped_branch, shaped_leaf)

-- `struct { int a; }` without a tag has no type
no_tag : base_type (Branch label.Specs (Branch label.StructDef (word (codes "struct") ∷ punct (codes "{") ∷ punct (codes "}") ∷ []) ∷ [])) ≡ None
no_tag = simp (out-Branch, out-Leaf)

-- `const union u`
union_tag : base_type (Branch label.Specs (word (codes "const") ∷ Branch label.StructUse (word (codes "union") ∷ name (codes "u") ∷ []) ∷ []))
    ≡ Some (Tag true (codes "u"))
union_tag = simp (out-Branch, out-Leaf)

-- `u32 *x[3]` is an array of pointers, and `u32 (*x)[3]` is a pointer to an array
array_of_pointers : declared (Branch label.Specs (name (codes "u32") ∷ []))
    (Some (pointer (Branch label.DArray (name (codes "x") ∷ punct (codes "[") ∷ leaf kind.Number (codes "3") ∷ punct (codes "]") ∷ []))))
    ≡ Some (Array (Ptr (Named (codes "u32"))))
array_of_pointers = simp (out-Branch, out-Leaf, shaped_branch, shaped_leaf)

pointer_to_array : declared (Branch label.Specs (name (codes "u32") ∷ []))
    (Some (Branch label.DArray (Branch label.DParen (punct (codes "(") ∷ pointer (name (codes "x")) ∷ punct (codes ")") ∷ [])
    ∷ punct (codes "[") ∷ leaf kind.Number (codes "3") ∷ punct (codes "]") ∷ [])))
    ≡ Some (Ptr (Array (Named (codes "u32"))))
pointer_to_array = simp (out-Branch, out-Leaf, shaped_branch, shaped_leaf)

-- the name in `*x`; none in `*const`
name_of_pointer : declared_name (pointer (name (codes "x"))) ≡ Some (codes "x")
name_of_pointer = simp (name_branch, name_leaf, out-Leaf)

no_name : declared_name (pointer (word (codes "const"))) ≡ None
no_name = simp (name_branch, name_leaf, out-Leaf)

module _ (t u : Option Ty) where
  -- of two declarations of a name the last counts, also if it gives no type
  last_counts : last_type (record { name = codes "x"; ty = t } ∷ record { name = codes "x"; ty = u } ∷ record { name = codes "y"; ty = t } ∷ [])
      (codes "x") ≡ Some u
  last_counts = refl

  not_declared : last_type (record { name = codes "x"; ty = t } ∷ []) (codes "y") ≡ None
  not_declared = refl

  -- of two declarations of a field the first counts
  first_counts : with_field (record { is_union = false; tag = codes "s"; name = codes "a"; ty = t } ∷ [])
      (record { is_union = false; tag = codes "s"; name = codes "a"; ty = u }) ≡ record { is_union = false; tag = codes "s"; name = codes "a"; ty = t } ∷ []
  first_counts = refl

  -- a field of a union isn't one of the structure with the same tag
  unions_apart : field_type (record { is_union = true; tag = codes "s"; name = codes "a"; ty = t } ∷ []) false (codes "s") (codes "a") ≡ None
  unions_apart = refl

  -- `x ?: y` has no type
  short_has_none : (cs : List Tree) (fs : List Field) → branch_type fs label.CondShort cs (t ∷ None ∷ None ∷ u ∷ []) ≡ None
  short_has_none cs fs = refl

  -- `(a, b)` has the type of b
  last_of_comma : (cs : List Tree) (fs : List Field) → branch_type fs label.Comma cs (t ∷ None ∷ u ∷ []) ≡ u
  last_of_comma cs fs = refl

-- `a < b` is an `int`, and `a + b` has no type
comparison : binary_type (codes "<") ≡ Some (Basic (codes "int" ∷ []))
comparison = refl

sum_has_none : binary_type (codes "+") ≡ None
sum_has_none = refl
