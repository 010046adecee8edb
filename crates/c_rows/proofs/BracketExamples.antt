-- What a `(` and `sizeof` are, by examples. `t` is in the names, `u` is not.
use Rattle.std.proofs.Common.{◌≡◌, [], ◌∷◌, refl}
use Rattle.std.specs.Prelude.{codes}
use Rattle.c_terms.specs.declared.token.MetaKind.TheVariants as meta
use Rattle.c_rows.specs.declared.class.Class.TheVariants as class
use Rattle.c_rows.specs.Look.{look}
use Rattle.c_rows.proofs.ExampleTokens.{punct_of, word_of, meta_of, u, t, x, number, character, string, left, right}

-- ---- a `(` begins a cast to a name that is not in the names exactly before these

cast_before_name : look (codes "t" ∷ []) (left ∷ u ∷ right ∷ x ∷ []) ≡ class.CastNest
unfolding look
cast_before_name = refl

cast_before_number : look (codes "t" ∷ []) (left ∷ u ∷ right ∷ number ∷ []) ≡ class.CastNest
unfolding look
cast_before_number = refl

cast_before_character : look (codes "t" ∷ []) (left ∷ u ∷ right ∷ character ∷ []) ≡ class.CastNest
unfolding look
cast_before_character = refl

cast_before_string : look (codes "t" ∷ []) (left ∷ u ∷ right ∷ string ∷ []) ≡ class.CastNest
unfolding look
cast_before_string = refl

cast_before_tilde : look (codes "t" ∷ []) (left ∷ u ∷ right ∷ punct_of (codes "~") ∷ []) ≡ class.CastNest
unfolding look
cast_before_tilde = refl

cast_before_not : look (codes "t" ∷ []) (left ∷ u ∷ right ∷ punct_of (codes "!") ∷ []) ≡ class.CastNest
unfolding look
cast_before_not = refl

cast_before_sizeof : look (codes "t" ∷ []) (left ∷ u ∷ right ∷ word_of (codes "sizeof") ∷ []) ≡ class.CastNest
unfolding look
cast_before_sizeof = refl

cast_before_expression : look (codes "t" ∷ []) (left ∷ u ∷ right ∷ meta_of meta.Expr ∷ []) ≡ class.CastNest
unfolding look
cast_before_expression = refl

cast_before_constant : look (codes "t" ∷ []) (left ∷ u ∷ right ∷ meta_of meta.Constant ∷ []) ≡ class.CastNest
unfolding look
cast_before_constant = refl

cast_before_identifier : look (codes "t" ∷ []) (left ∷ u ∷ right ∷ meta_of meta.Ident ∷ []) ≡ class.CastNest
unfolding look
cast_before_identifier = refl

literal_before_brace : look (codes "t" ∷ []) (left ∷ u ∷ right ∷ punct_of (codes "{") ∷ []) ≡ class.LiteralNest
unfolding look
literal_before_brace = refl

no_cast_before_minus : look (codes "t" ∷ []) (left ∷ u ∷ right ∷ punct_of (codes "-") ∷ []) ≡ class.ParenNest
unfolding look
no_cast_before_minus = refl

no_cast_before_star : look (codes "t" ∷ []) (left ∷ u ∷ right ∷ punct_of (codes "*") ∷ []) ≡ class.ParenNest
unfolding look
no_cast_before_star = refl

no_cast_before_and : look (codes "t" ∷ []) (left ∷ u ∷ right ∷ punct_of (codes "&") ∷ []) ≡ class.ParenNest
unfolding look
no_cast_before_and = refl

no_cast_before_bracket : look (codes "t" ∷ []) (left ∷ u ∷ right ∷ punct_of (codes "(") ∷ []) ≡ class.ParenNest
unfolding look
no_cast_before_bracket = refl

no_cast_before_type : look (codes "t" ∷ []) (left ∷ u ∷ right ∷ meta_of meta.Typ ∷ []) ≡ class.ParenNest
unfolding look
no_cast_before_type = refl

no_cast_before_statement : look (codes "t" ∷ []) (left ∷ u ∷ right ∷ meta_of meta.Stmt ∷ []) ≡ class.ParenNest
unfolding look
no_cast_before_statement = refl

-- ---- and to a type

cast_to_known : look (codes "t" ∷ []) (left ∷ t ∷ right ∷ punct_of (codes "-") ∷ []) ≡ class.CastList
unfolding look
cast_to_known = refl

cast_to_word : look (codes "t" ∷ []) (left ∷ word_of (codes "int") ∷ right ∷ punct_of (codes "-") ∷ []) ≡ class.CastList
unfolding look
cast_to_word = refl

cast_to_qualified : look (codes "t" ∷ []) (left ∷ word_of (codes "const") ∷ right ∷ []) ≡ class.CastList
unfolding look
cast_to_qualified = refl

cast_to_struct : look (codes "t" ∷ []) (left ∷ word_of (codes "struct") ∷ x ∷ right ∷ []) ≡ class.CastList
unfolding look
cast_to_struct = refl

cast_to_metavariable : look (codes "t" ∷ []) (left ∷ meta_of meta.Typ ∷ right ∷ []) ≡ class.CastList
unfolding look
cast_to_metavariable = refl

cast_to_pointer : look (codes "t" ∷ []) (left ∷ u ∷ punct_of (codes "*") ∷ right ∷ x ∷ []) ≡ class.CastNest
unfolding look
cast_to_pointer = refl

cast_to_pointers : look (codes "t" ∷ []) (left ∷ u ∷ punct_of (codes "*") ∷ punct_of (codes "*") ∷ right ∷ punct_of (codes "-") ∷ []) ≡ class.CastNest
unfolding look
cast_to_pointers = refl

cast_to_union : look (codes "t" ∷ []) (left ∷ word_of (codes "union") ∷ x ∷ right ∷ []) ≡ class.CastList
unfolding look
cast_to_union = refl

cast_to_enum : look (codes "t" ∷ []) (left ∷ word_of (codes "enum") ∷ x ∷ right ∷ []) ≡ class.CastList
unfolding look
cast_to_enum = refl

cast_to_long : look (codes "t" ∷ []) (left ∷ word_of (codes "unsigned") ∷ word_of (codes "long") ∷ right ∷ []) ≡ class.CastList
unfolding look
cast_to_long = refl

no_cast_to_storage : look (codes "t" ∷ []) (left ∷ word_of (codes "static") ∷ word_of (codes "int") ∷ right ∷ []) ≡ class.ParenList
unfolding look
no_cast_to_storage = refl

no_cast_to_function_word : look (codes "t" ∷ []) (left ∷ word_of (codes "inline") ∷ word_of (codes "int") ∷ right ∷ []) ≡ class.ParenList
unfolding look
no_cast_to_function_word = refl

no_cast_to_array : look (codes "t" ∷ []) (left ∷ u ∷ punct_of (codes "[") ∷ punct_of (codes "]") ∷ right ∷ x ∷ []) ≡ class.ParenNest
unfolding look
no_cast_to_array = refl

product_in_brackets : look (codes "t" ∷ []) (left ∷ u ∷ punct_of (codes "*") ∷ x ∷ right ∷ []) ≡ class.ParenNest
unfolding look
product_in_brackets = refl

-- ---- `sizeof`, `_Alignof`

sizeof_unknown : look (codes "t" ∷ []) (word_of (codes "sizeof") ∷ left ∷ u ∷ right ∷ punct_of (codes "~") ∷ []) ≡ class.SizeofExpr
unfolding look
sizeof_unknown = refl

sizeof_known : look (codes "t" ∷ []) (word_of (codes "sizeof") ∷ left ∷ t ∷ right ∷ []) ≡ class.SizeofType
unfolding look
sizeof_known = refl

sizeof_pointer : look (codes "t" ∷ []) (word_of (codes "sizeof") ∷ left ∷ u ∷ punct_of (codes "*") ∷ right ∷ []) ≡ class.SizeofType
unfolding look
sizeof_pointer = refl

sizeof_literal : look (codes "t" ∷ []) (word_of (codes "sizeof") ∷ left ∷ t ∷ right ∷ punct_of (codes "{") ∷ []) ≡ class.SizeofExpr
unfolding look
sizeof_literal = refl

sizeof_cast : look (codes "t" ∷ []) (word_of (codes "sizeof") ∷ left ∷ t ∷ right ∷ x ∷ []) ≡ class.SizeofType
unfolding look
sizeof_cast = refl

sizeof_word : look (codes "t" ∷ []) (word_of (codes "sizeof") ∷ x ∷ []) ≡ class.SizeofExpr
unfolding look
sizeof_word = refl

sizeof_unknown_literal : look (codes "t" ∷ []) (word_of (codes "sizeof") ∷ left ∷ u ∷ right ∷ punct_of (codes "{") ∷ []) ≡ class.Other
unfolding look
sizeof_unknown_literal = refl

alignof_known : look (codes "t" ∷ []) (word_of (codes "_Alignof") ∷ left ∷ t ∷ right ∷ []) ≡ class.SizeofType
unfolding look
alignof_known = refl

alignof_unknown : look (codes "t" ∷ []) (word_of (codes "_Alignof") ∷ left ∷ u ∷ right ∷ []) ≡ class.Other
unfolding look
alignof_unknown = refl

-- ---- a `(` before anything of a declarator has been read

declarator_of_star : look (codes "t" ∷ []) (left ∷ punct_of (codes "*") ∷ x ∷ right ∷ []) ≡ class.ParenNest
unfolding look
declarator_of_star = refl

declarator_of_bracket : look (codes "t" ∷ []) (left ∷ left ∷ x ∷ right ∷ right ∷ []) ≡ class.ParenNest
unfolding look
declarator_of_bracket = refl

declarator_of_unknown : look (codes "t" ∷ []) (left ∷ u ∷ right ∷ []) ≡ class.ParenNest
unfolding look
declarator_of_unknown = refl

parameters_of_known : look (codes "t" ∷ []) (left ∷ t ∷ x ∷ right ∷ punct_of (codes ";") ∷ []) ≡ class.CastList
unfolding look
parameters_of_known = refl

parameters_of_nothing : look (codes "t" ∷ []) (left ∷ right ∷ []) ≡ class.ParenList
unfolding look
parameters_of_nothing = refl
