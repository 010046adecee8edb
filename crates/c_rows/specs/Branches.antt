-- Guards: what a branch requires of its parts together, and where the tokens that follow let a branch or a way begin.
use Rattle.std.specs.Prelude.{Bool, true, false, not, ◌&&◌, ◌||◌, List, [], ◌∷◌}
use Rattle.std.specs.List.{list_all}
use Rattle.c_terms.specs.declared.label.Label.{Label}
use Rattle.c_terms.specs.declared.label.Label.TheVariants as label
use Rattle.c_terms.specs.declared.tree.Tree.{Tree, out-Tree}
use Rattle.c_terms.specs.declared.tree.Tree.TheOpen.{Tree-F}
use Rattle.c_terms.specs.declared.tree.Tree.TheFolds.{fold-Tree}
use Rattle.c_rows.specs.declared.word.Word.TheVariants as word
use Rattle.c_rows.specs.declared.symbol.Symbol.TheVariants.{Child}
use Rattle.c_rows.specs.declared.symbol.Fork.{Fork}
use Rattle.c_rows.specs.declared.symbol.Fork.TheVariants as fork
use Rattle.c_rows.specs.declared.class.Class.{Class}
use Rattle.c_rows.specs.declared.class.Class.TheVariants as class
use Rattle.c_rows.specs.declared.kind.Kind.{Kind}
use Rattle.c_rows.specs.declared.kind.Kind.TheVariants as kind
use Rattle.c_rows.specs.declared.rule.Rule.{Rule}
use Rattle.c_rows.specs.declared.rule.Rule.TheVariants as rule
use Rattle.c_rows.specs.Tokens.{is_named, is_storage}
use Rattle.c_rows.specs.Words.{same_class, fits, begins_tag}
use Rattle.c_rows.specs.Forks.{Row}
pub use Rattle.c_rows.specs.Labels.{text_is, labelled, is_decl_label, is_block_label, is_blockless}
pub use Rattle.c_rows.specs.Labels.{branches_label, at_label, if_label, case_label, for_label, external_label, macro_label}
pub use Rattle.c_rows.specs.Rows.{kind_of, label_of, build}

-- ---- type names

abbrev pub first_of : List Bool → Bool
first_of [] = false
first_of (b ∷ bs) = b

abbrev pub any_of : List Bool → Bool
any_of [] = false
any_of (b ∷ bs) = b || any_of bs

-- an array's size and a function's parameters are not on the path to the name
abbrev pub declares_at : Label → List Bool → Bool
declares_at label.Pointer bs = any_of bs
declares_at label.DParen bs = any_of bs
declares_at label.DArray bs = first_of bs
declares_at label.DFun bs = first_of bs
declares_at _ bs = false

abbrev pub declares_step : Tree-F Bool → Bool
declares_step (Tree-F.Leaf t) = is_named t
declares_step (Tree-F.Branch l bs) = declares_at l bs

-- whether the declarator has a name at its core
abbrev pub declares_name : Tree → Bool
declares_name = fold-Tree Bool declares_step

abbrev pub defines : Label → Bool
defines label.StructDef = true
defines label.EnumDef = true
defines _ = false

-- whether the part of a Specs is not a storage word, and defines nothing
abbrev pub plain_part : Tree-F Tree → Bool
plain_part (Tree-F.Leaf t) = not (is_storage t)
plain_part (Tree-F.Branch l cs) = not (defines l)

abbrev pub plain_at : Tree-F Tree → Bool
plain_at (Tree-F.Leaf t) = true
plain_at (Tree-F.Branch l parts) = list_all (λ part. plain_part (out-Tree part)) parts

abbrev pub is_plain : Tree → Bool
is_plain specs = plain_at (out-Tree specs)

-- The Specs of a type name has no storage word and defines nothing, and its declarator has no name.
abbrev pub is_plain_type : List Tree → Bool
is_plain_type (specs ∷ []) = is_plain specs
is_plain_type (specs ∷ declarator ∷ []) = is_plain specs && not (declares_name declarator)
is_plain_type _ = false

-- ---- statements and items

abbrev pub is_loose_label : Label → Bool
is_loose_label label.Comma = true
is_loose_label label.Assign = true
is_loose_label _ = false

-- The first expression of a CaseRange is of Cond level: it has no comma and no assignment outside brackets.
abbrev pub is_case : List Tree → Bool
is_case (a ∷ b ∷ c ∷ []) = true
is_case (a ∷ b ∷ cs) = not (labelled is_loose_label (out-Tree b))
is_case _ = true

abbrev pub function_at : Label → List Bool → Bool
function_at label.DFun bs = true
function_at label.Pointer bs = any_of bs
function_at label.DParen bs = any_of bs
function_at label.DArray bs = first_of bs
function_at _ bs = false

abbrev pub function_step : Tree-F Bool → Bool
function_step (Tree-F.Leaf t) = false
function_step (Tree-F.Branch l bs) = function_at l bs

-- Whether a DFun is on the path from the outermost declarator to the name.
abbrev pub declares_function : Tree → Bool
declares_function = fold-Tree Bool function_step

-- The declarator of a FunDef declares a function.
abbrev pub is_external : List Tree → Bool
is_external (specs ∷ declarator ∷ last ∷ []) = not (labelled is_block_label (out-Tree last)) || declares_function declarator
is_external _ = true

-- whether the rule's row allows these parts together
abbrev pub allows : Rule → List Tree → Bool
allows rule.TypeName cs = is_plain_type cs
allows rule.Case cs = is_case cs
allows rule.External cs = is_external cs
allows _ cs = true

-- ---- where a branch may begin

-- whether a macro's item begins with this class
abbrev pub begins_macro : Class → Bool
begins_macro class.StorageOfMacro = true
begins_macro class.NameOfCall = true
begins_macro class.NameOfIterator = true
begins_macro _ = false

abbrev pub is_strings : Class → Bool
is_strings class.StrOfString = true
is_strings class.NameOfString = true
is_strings _ = false

abbrev pub is_typ : Class → Bool
is_typ class.Typ = true
is_typ _ = false

-- Whether a declaration begins with this class, at the start of a statement and after the `(` of a `for`: with a word
-- of a type, a metavariable for one, or a name that begins one by the tokens after it.
abbrev pub begins_declaration : Class → Bool
begins_declaration class.NameOfDecl = true
begins_declaration class.Typ = true
begins_declaration class.TypOfDeclarator = true
begins_declaration c = fits word.BasicOrModifier c || begins_tag c

-- Whether a label or an iterator begins with this class at the start of a statement.
abbrev pub begins_label : Class → Bool
begins_label c = same_class class.NameOfLabel c || fits word.IteratorName c

abbrev pub begins_expr_stat : Class → Bool
begins_expr_stat c = not (begins_declaration c) && not (begins_label c)

-- `...` or a PatNest
abbrev pub begins_dots : Class → Bool
begins_dots class.Dots = true
begins_dots class.PatNestOfExpression = true
begins_dots class.PatNestOfStatements = true
begins_dots _ = false

-- Whether a branch of the rule may begin at this class. A metavariable for a type that no declarator follows is a
-- TypeName by itself. What begins a macro's item begins no Field and no External of another rule. What begins a
-- declaration, a label or an iterator begins no ExprStat.
abbrev pub begins : Rule → Class → Bool
begins rule.Strings c = is_strings c
begins rule.TypeName c = not (is_typ c)
begins rule.Field c = not (begins_macro c)
begins rule.MacroItem c = begins_macro c
begins rule.ExprStat c = begins_expr_stat c
begins rule.External c = not (begins_macro c)
begins rule.ExternalMacro c = begins_macro c
begins _ c = true

-- Whether a row may end at a fork before this class: an If without an `else` is never directly before one.
abbrev pub may_end : Fork → Class → Bool
may_end fork.ElseOrNot c = not (same_class class.Else c)
may_end _ c = true

-- Whether a row may continue at a fork with a part of this kind at this class: a declaration is exactly where one
-- begins, and the first token distinguishes a PatNest, a Block and other statements.
abbrev pub may_stand : Fork → Kind → Class → Bool
may_stand fork.ForInit kind.Expr c = not (begins_declaration c)
may_stand f kind.Decl c = begins_declaration c
may_stand f kind.PatNest c = begins_dots c && not (same_class class.Dots c)
may_stand f kind.Block c = same_class class.LeftBrace c
may_stand f kind.Statement c = not (begins_declaration c) && not (begins_dots c)
may_stand f _ c = true

abbrev pub may_go : Fork → Row → Class → Bool
may_go f [] c = may_end f c
may_go f (Child k ∷ ps) c = may_stand f k c
may_go f (p ∷ ps) c = true
