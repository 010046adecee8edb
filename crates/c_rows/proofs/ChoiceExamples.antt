-- Which way a row continues, and which row begins, by examples.
use Rattle.std.proofs.Common.{◌≡◌, [], ◌∷◌, refl}
use Rattle.std.specs.Prelude.{true, false, Some, None}
use Rattle.c_rows.specs.declared.class.Class.TheVariants as class
use Rattle.c_rows.specs.declared.word.Word.TheVariants as word
use Rattle.c_rows.specs.declared.kind.Kind.TheVariants as kind
use Rattle.c_rows.specs.declared.kind.Family.TheVariants as family
use Rattle.c_rows.specs.declared.rule.Rule.TheVariants as rule
use Rattle.c_rows.specs.declared.symbol.Symbol.TheVariants.{Word, Child, Fork}
use Rattle.c_rows.specs.declared.symbol.Fork.TheVariants as fork
use Rattle.c_rows.specs.Kinds.{within}
use Rattle.c_rows.specs.Rows.{One}
use Rattle.c_rows.specs.Choice.{choose, head}

-- ---- an `else` goes to the nearest `if`

nearest_else : choose fork.ElseOrNot class.Else ≡ Some (One class.Else ∷ Child kind.Body ∷ [])
nearest_else = refl

no_else : choose fork.ElseOrNot class.End ≡ Some []
no_else = refl

-- ---- in a list of statements

declaration_of_known : choose fork.ListStatements class.NameOfDecl ≡ Some (Child kind.Decl ∷ Fork fork.ListStatements ∷ [])
declaration_of_known = refl

declaration_of_word : choose fork.ListStatements class.Basic ≡ Some (Child kind.Decl ∷ Fork fork.ListStatements ∷ [])
declaration_of_word = refl

declaration_of_metavariable : choose fork.ListStatements class.Typ ≡ Some (Child kind.Decl ∷ Fork fork.ListStatements ∷ [])
declaration_of_metavariable = refl

declaration_of_storage : choose fork.ListStatements class.Storage ≡ Some (Child kind.Decl ∷ Fork fork.ListStatements ∷ [])
declaration_of_storage = refl

declaration_of_function_word : choose fork.ListStatements class.Function ≡ Some (Child kind.Decl ∷ Fork fork.ListStatements ∷ [])
declaration_of_function_word = refl

declaration_of_qualifier : choose fork.ListStatements class.Qualifier ≡ Some (Child kind.Decl ∷ Fork fork.ListStatements ∷ [])
declaration_of_qualifier = refl

declaration_of_structure : choose fork.ListStatements class.Struct ≡ Some (Child kind.Decl ∷ Fork fork.ListStatements ∷ [])
declaration_of_structure = refl

declaration_of_structure_with_members : choose fork.ListStatements class.StructBody ≡ Some (Child kind.Decl ∷ Fork fork.ListStatements ∷ [])
declaration_of_structure_with_members = refl

declaration_of_enumeration : choose fork.ListStatements class.Enum ≡ Some (Child kind.Decl ∷ Fork fork.ListStatements ∷ [])
declaration_of_enumeration = refl

declaration_of_enumeration_with_members : choose fork.ListStatements class.EnumBody ≡ Some (Child kind.Decl ∷ Fork fork.ListStatements ∷ [])
declaration_of_enumeration_with_members = refl

statement_of_name : choose fork.ListStatements class.Name ≡ Some (Child kind.Statement ∷ Fork fork.ListStatements ∷ [])
statement_of_name = refl

dots_once : choose fork.ListStatements class.Dots ≡ Some (One class.Dots ∷ Fork fork.ListBehindDots ∷ [])
dots_once = refl

dots_twice : choose fork.ListBehindDots class.Dots ≡ None
dots_twice = refl

nest_behind_dots : choose fork.BlockBehindDots class.PatNestOfExpression ≡ None
nest_behind_dots = refl

nest_in_nest_behind_dots : choose fork.NestBehindDots class.PatNestOfStatements ≡ None
nest_in_nest_behind_dots = refl

for_declaration : choose fork.ForInit class.NameOfDecl ≡ Some (Child kind.Decl ∷ Fork fork.ForTest ∷ [])
for_declaration = refl

for_expression : choose fork.ForInit class.Name ≡ Some (Child kind.Expr ∷ One class.Semicolon ∷ Fork fork.ForTest ∷ [])
for_expression = refl

-- ---- at the start of a statement, a body or an item

label_begins : head family.Statement class.NameOfLabel ≡ Some rule.Label
label_begins = refl

iterator_begins : head family.Statement class.NameOfIterator ≡ Some rule.Iterator
iterator_begins = refl

star_iterator_begins : head family.Statement class.NameOfStarIterator ≡ Some rule.Iterator
star_iterator_begins = refl

call_begins : head family.Statement class.NameOfCall ≡ Some rule.ExprStat
call_begins = refl

no_declaration_in_a_body : head family.Statement class.NameOfDecl ≡ None
no_declaration_in_a_body = refl

no_word_in_a_body : head family.Statement class.Basic ≡ None
no_word_in_a_body = refl

macro_begins : head family.External class.NameOfCall ≡ Some rule.ExternalMacro
macro_begins = refl

macro_of_storage_begins : head family.External class.StorageOfMacro ≡ Some rule.ExternalMacro
macro_of_storage_begins = refl

macro_function_begins : head family.External class.NameOfIterator ≡ Some rule.ExternalMacro
macro_function_begins = refl

type_begins : head family.External class.Name ≡ Some rule.External
type_begins = refl

field_begins : head family.Field class.Name ≡ Some rule.Field
field_begins = refl

no_field_of_a_macro : head family.Field class.NameOfCall ≡ None
no_field_of_a_macro = refl

-- ---- kinds

label_is_no_body : within kind.Statement kind.Body ≡ false
label_is_no_body = refl

block_is_a_body : within kind.Block kind.Body ≡ true
block_is_a_body = refl

bits_are_no_initialiser : within kind.FieldDeclarator kind.InitDeclarator ≡ false
bits_are_no_initialiser = refl

initialiser_is_no_field : within kind.InitDeclarator kind.FieldDeclarator ≡ false
initialiser_is_no_field = refl

-- ---- lists

comma_alone : choose fork.FirstInit class.Comma ≡ Some (One class.Comma ∷ One class.RightBrace ∷ [])
comma_alone = refl

one_enumerator : choose fork.EnumName class.LeftBrace ≡ Some (One class.LeftBrace ∷ Child kind.Enumerator ∷ Fork fork.MoreEnumerators ∷ [])
one_enumerator = refl

block_behind_the_first_declarator : choose fork.AfterExternal class.LeftBrace ≡ Some (Child kind.Block ∷ [])
block_behind_the_first_declarator = refl

no_block_behind_the_second : choose fork.MoreDeclarators class.LeftBrace ≡ None
no_block_behind_the_second = refl

no_empty_enumeration : choose fork.EnumName class.RightBrace ≡ None
no_empty_enumeration = refl

last_comma_of_enumerators : choose fork.NextEnumerator class.RightBrace ≡ Some (One class.RightBrace ∷ [])
last_comma_of_enumerators = refl

dots_beside_dots_in_a_call : choose fork.NextArg class.Dots ≡ Some (Word word.ArgRun ∷ Fork fork.MoreArgs ∷ [])
dots_beside_dots_in_a_call = refl

nothing_behind_the_ellipsis : choose fork.NextParam class.Ellipsis ≡ Some (One class.Ellipsis ∷ [])
nothing_behind_the_ellipsis = refl
