-- What names, words and signs of patterns are, by examples. `t` is in the names, `u` is not.
use Rattle.std.proofs.Common.{◌≡◌, [], ◌∷◌, refl}
use Rattle.std.specs.Prelude.{codes}
use Rattle.c_terms.specs.declared.token.MetaKind.TheVariants as meta
use Rattle.c_rows.specs.declared.class.Class.TheVariants as class
use Rattle.c_rows.specs.Look.{look, has_semicolon}
use Rattle.c_rows.proofs.ExampleTokens.{punct_of, word_of, pat_of, meta_of, u, t, x, each, left, right}

-- ---- a declaration at the start of a statement

unknown_pointer_before_semicolon : look (codes "t" ∷ []) (u ∷ punct_of (codes "*") ∷ x ∷ punct_of (codes ";") ∷ []) ≡ class.NameOfDecl
unfolding look
unknown_pointer_before_semicolon = refl

unknown_pointer_before_comma : look (codes "t" ∷ []) (u ∷ punct_of (codes "*") ∷ x ∷ punct_of (codes ",") ∷ []) ≡ class.NameOfDecl
unfolding look
unknown_pointer_before_comma = refl

unknown_pointer_before_equal : look (codes "t" ∷ []) (u ∷ punct_of (codes "*") ∷ x ∷ punct_of (codes "=") ∷ []) ≡ class.NameOfDecl
unfolding look
unknown_pointer_before_equal = refl

unknown_pointer_before_bracket : look (codes "t" ∷ []) (u ∷ punct_of (codes "*") ∷ x ∷ punct_of (codes "[") ∷ []) ≡ class.NameOfDecl
unfolding look
unknown_pointer_before_bracket = refl

unknown_before_name : look (codes "t" ∷ []) (u ∷ x ∷ punct_of (codes ";") ∷ []) ≡ class.NameOfDecl
unfolding look
unknown_before_name = refl

unknown_pointers : look (codes "t" ∷ []) (u ∷ punct_of (codes "*") ∷ punct_of (codes "*") ∷ x ∷ punct_of (codes ";") ∷ []) ≡ class.NameOfDecl
unfolding look
unknown_pointers = refl

unknown_product : look (codes "t" ∷ []) (u ∷ punct_of (codes "*") ∷ x ∷ punct_of (codes "+") ∷ []) ≡ class.Name
unfolding look
unknown_product = refl

unknown_product_of_call : look (codes "t" ∷ []) (u ∷ punct_of (codes "*") ∷ x ∷ left ∷ []) ≡ class.Name
unfolding look
unknown_product_of_call = refl

known_before_star : look (codes "t" ∷ []) (t ∷ punct_of (codes "*") ∷ x ∷ punct_of (codes "+") ∷ []) ≡ class.NameOfDecl
unfolding look
known_before_star = refl

known_before_name : look (codes "t" ∷ []) (t ∷ x ∷ left ∷ []) ≡ class.NameOfDecl
unfolding look
known_before_name = refl

known_before_identifier : look (codes "t" ∷ []) (t ∷ meta_of meta.Ident ∷ punct_of (codes "+") ∷ []) ≡ class.NameOfDecl
unfolding look
known_before_identifier = refl

known_before_bracket : look (codes "t" ∷ []) (t ∷ punct_of (codes "[") ∷ x ∷ []) ≡ class.Name
unfolding look
known_before_bracket = refl

-- ---- a label, an iterator, a macro

name_before_colon : look (codes "t" ∷ []) (u ∷ punct_of (codes ":") ∷ []) ≡ class.NameOfLabel
unfolding look
name_before_colon = refl

iterator_of_block : look (codes "t" ∷ []) (u ∷ left ∷ x ∷ right ∷ punct_of (codes "{") ∷ []) ≡ class.NameOfIterator
unfolding look
iterator_of_block = refl

iterator_of_block_behind_groups : look (codes "t" ∷ [])
    (u ∷ left ∷ x ∷ punct_of (codes "[") ∷ left ∷ right ∷ punct_of (codes "]") ∷ right ∷ punct_of (codes "{") ∷ []) ≡ class.NameOfIterator
unfolding look
iterator_of_block_behind_groups = refl

iterator_of_star : look (codes "t" ∷ []) (u ∷ left ∷ punct_of (codes "*") ∷ x ∷ right ∷ punct_of (codes "{") ∷ []) ≡ class.NameOfStarIterator
unfolding look
iterator_of_star = refl

for_each_before_name : look (codes "t" ∷ []) (each ∷ left ∷ x ∷ right ∷ x ∷ []) ≡ class.NameOfIterator
unfolding look
for_each_before_name = refl

for_each_before_keyword : look (codes "t" ∷ []) (each ∷ left ∷ x ∷ right ∷ word_of (codes "if") ∷ []) ≡ class.NameOfIterator
unfolding look
for_each_before_keyword = refl

for_each_before_statement : look (codes "t" ∷ []) (each ∷ left ∷ x ∷ right ∷ meta_of meta.Stmt ∷ []) ≡ class.NameOfIterator
unfolding look
for_each_before_statement = refl

for_each_before_semicolon : look (codes "t" ∷ []) (each ∷ left ∷ x ∷ right ∷ punct_of (codes ";") ∷ []) ≡ class.NameOfCall
unfolding look
for_each_before_semicolon = refl

call_before_name : look (codes "t" ∷ []) (u ∷ left ∷ x ∷ right ∷ x ∷ []) ≡ class.NameOfCall
unfolding look
call_before_name = refl

name_before_bracket_and_star : look (codes "t" ∷ []) (u ∷ left ∷ punct_of (codes "*") ∷ x ∷ right ∷ punct_of (codes ";") ∷ []) ≡ class.Name
unfolding look
name_before_bracket_and_star = refl

storage_of_macro : look (codes "t" ∷ []) (word_of (codes "static") ∷ word_of (codes "extern") ∷ u ∷ left ∷ x ∷ []) ≡ class.StorageOfMacro
unfolding look
storage_of_macro = refl

storage_of_macro_function : look (codes "t" ∷ []) (word_of (codes "static") ∷ u ∷ left ∷ x ∷ right ∷ punct_of (codes "{") ∷ []) ≡ class.StorageOfMacro
unfolding look
storage_of_macro_function = refl

storage_before_star : look (codes "t" ∷ []) (word_of (codes "static") ∷ u ∷ left ∷ punct_of (codes "*") ∷ x ∷ []) ≡ class.Storage
unfolding look
storage_before_star = refl

storage_before_type : look (codes "t" ∷ []) (word_of (codes "static") ∷ word_of (codes "int") ∷ []) ≡ class.Storage
unfolding look
storage_before_type = refl

-- ---- words

noreturn : look (codes "t" ∷ []) (word_of (codes "_Noreturn") ∷ []) ≡ class.Function
unfolding look
noreturn = refl

inline : look (codes "t" ∷ []) (word_of (codes "inline") ∷ []) ≡ class.Function
unfolding look
inline = refl

thread_local : look (codes "t" ∷ []) (word_of (codes "_Thread_local") ∷ []) ≡ class.Storage
unfolding look
thread_local = refl

restrict : look (codes "t" ∷ []) (word_of (codes "restrict") ∷ []) ≡ class.Qualifier
unfolding look
restrict = refl

complex : look (codes "t" ∷ []) (word_of (codes "_Complex") ∷ []) ≡ class.Basic
unfolding look
complex = refl

atomic : look (codes "t" ∷ []) (word_of (codes "_Atomic") ∷ []) ≡ class.Other
unfolding look
atomic = refl

asm : look (codes "t" ∷ []) (word_of (codes "asm") ∷ []) ≡ class.Other
unfolding look
asm = refl

statement_metavariable : look (codes "t" ∷ []) (meta_of meta.Stmt ∷ []) ≡ class.Stmt
unfolding look
statement_metavariable = refl

type_metavariable : look (codes "t" ∷ []) (meta_of meta.Typ ∷ x ∷ []) ≡ class.Typ
unfolding look
type_metavariable = refl

type_metavariable_before_star : look (codes "t" ∷ []) (meta_of meta.Typ ∷ punct_of (codes "*") ∷ []) ≡ class.TypOfDeclarator
unfolding look
type_metavariable_before_star = refl

short_question : look (codes "t" ∷ []) (punct_of (codes "?") ∷ punct_of (codes ":") ∷ []) ≡ class.ShortQuestion
unfolding look
short_question = refl

-- ---- signs of patterns

branches_of_expressions : look (codes "t" ∷ []) (pat_of (codes "\\(") ∷ u ∷ pat_of (codes "\\|") ∷ x ∷ pat_of (codes "\\)") ∷ []) ≡ class.PatOpen
unfolding look has_semicolon
branches_of_expressions = refl

branches_of_statements : look (codes "t" ∷ [])
    (pat_of (codes "\\(") ∷ u ∷ punct_of (codes ";") ∷ pat_of (codes "\\|") ∷ x ∷ punct_of (codes ";") ∷ pat_of (codes "\\)") ∷ []) ≡ class.PatOpenOfStatements
unfolding look has_semicolon
branches_of_statements = refl

empty_first_branch : look (codes "t" ∷ [])
    (pat_of (codes "\\(") ∷ pat_of (codes "\\|") ∷ x ∷ punct_of (codes ";") ∷ pat_of (codes "\\)") ∷ []) ≡ class.PatOpenOfStatements
unfolding look
empty_first_branch = refl

branch_of_a_block : look (codes "t" ∷ [])
    (pat_of (codes "\\(") ∷ punct_of (codes "{") ∷ punct_of (codes "}") ∷ pat_of (codes "\\|") ∷ []) ≡ class.PatOpenOfStatements
unfolding look
branch_of_a_block = refl

semicolon_of_a_later_branch : look (codes "t" ∷ []) (pat_of (codes "\\(") ∷ u ∷ pat_of (codes "\\|") ∷ x ∷ punct_of (codes ";") ∷ []) ≡ class.PatOpen
unfolding look has_semicolon
semicolon_of_a_later_branch = refl

semicolon_in_a_group : look (codes "t" ∷ [])
    (pat_of (codes "\\(") ∷ u ∷ punct_of (codes "{") ∷ punct_of (codes ";") ∷ punct_of (codes "}") ∷ pat_of (codes "\\|") ∷ []) ≡ class.PatOpen
unfolding look has_semicolon
semicolon_in_a_group = refl

nest_of_expression : look (codes "t" ∷ []) (pat_of (codes "<...") ∷ u ∷ pat_of (codes "...>") ∷ []) ≡ class.PatNestOfExpression
unfolding look has_semicolon
nest_of_expression = refl

nest_of_statements : look (codes "t" ∷ []) (pat_of (codes "<+...") ∷ u ∷ punct_of (codes ";") ∷ pat_of (codes "...+>") ∷ []) ≡ class.PatNestOfStatements
unfolding look has_semicolon
nest_of_statements = refl

empty_nest : look (codes "t" ∷ []) (pat_of (codes "<...") ∷ pat_of (codes "...>") ∷ []) ≡ class.PatNestOfStatements
unfolding look
empty_nest = refl
