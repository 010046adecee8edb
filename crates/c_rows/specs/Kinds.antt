-- The kinds of trees, and which of them include which.
use Rattle.std.specs.Prelude.{ℕ, Bool, true, false, ◌&&◌, nat_le}
use Rattle.c_rows.specs.declared.class.Class.{Class}
use Rattle.c_rows.specs.declared.class.Class.TheVariants as class
use Rattle.c_rows.specs.declared.word.Word.TheVariants as word
use Rattle.c_rows.specs.declared.kind.Kind.{Kind}
use Rattle.c_rows.specs.declared.kind.Kind.TheVariants as kind
use Rattle.c_rows.specs.declared.kind.Family.{Family}
use Rattle.c_rows.specs.declared.kind.Family.TheVariants as family
use Rattle.c_rows.specs.Words.{fits}

abbrev pub family_of : Kind → Family
family_of kind.Args = family.Args
family_of kind.TypeArg = family.TypeArg
family_of kind.TypeName = family.TypeName
family_of kind.Specs = family.Specs
family_of kind.Tag = family.Tag
family_of kind.Field = family.Field
family_of kind.MacroItem = family.MacroItem
family_of kind.NamelessBits = family.NamelessBits
family_of kind.Direct = family.Declarator
family_of kind.Declarator = family.Declarator
family_of kind.FieldDeclarator = family.Declarator
family_of kind.InitDeclarator = family.Declarator
family_of kind.Params = family.Params
family_of kind.Param = family.Param
family_of kind.InitList = family.InitList
family_of kind.InitItem = family.InitItem
family_of kind.Designator = family.Designator
family_of kind.EnumName = family.Enumerator
family_of kind.Enumerator = family.Enumerator
family_of kind.Decl = family.Decl
family_of kind.PatNest = family.Statement
family_of kind.Block = family.Statement
family_of kind.Body = family.Statement
family_of kind.Statement = family.Statement
family_of kind.StmtList = family.StmtList
family_of kind.External = family.External
family_of _ = family.Expression

-- Expressions, tightest first; declarators; enumerators; statements.
abbrev pub rank : Kind → ℕ
rank kind.Post = 0
rank kind.Un = 1
rank kind.CastLevel = 2
rank kind.Product = 3
rank kind.Sum = 4
rank kind.Shift = 5
rank kind.Order = 6
rank kind.Equality = 7
rank kind.And = 8
rank kind.Xor = 9
rank kind.Or = 10
rank kind.AndAnd = 11
rank kind.OrOr = 12
rank kind.CondLevel = 13
rank kind.AssignLevel = 14
rank kind.Expr = 15
rank kind.Direct = 0
rank kind.Declarator = 1
rank kind.FieldDeclarator = 2
rank kind.InitDeclarator = 3
rank kind.EnumName = 0
rank kind.Enumerator = 1
rank kind.PatNest = 0
rank kind.Block = 1
rank kind.Body = 2
rank kind.Statement = 3
rank _ = 0

-- Bits and declarators with an initialiser don't include each other.
abbrev pub side : Kind → ℕ
side kind.FieldDeclarator = 1
side _ = 0

abbrev pub same_family : Family → Family → Bool
same_family family.Expression family.Expression = true
same_family family.Args family.Args = true
same_family family.TypeArg family.TypeArg = true
same_family family.TypeName family.TypeName = true
same_family family.Specs family.Specs = true
same_family family.Tag family.Tag = true
same_family family.Field family.Field = true
same_family family.MacroItem family.MacroItem = true
same_family family.NamelessBits family.NamelessBits = true
same_family family.Declarator family.Declarator = true
same_family family.Params family.Params = true
same_family family.Param family.Param = true
same_family family.InitList family.InitList = true
same_family family.InitItem family.InitItem = true
same_family family.Designator family.Designator = true
same_family family.Enumerator family.Enumerator = true
same_family family.Decl family.Decl = true
same_family family.Statement family.Statement = true
same_family family.StmtList family.StmtList = true
same_family family.External family.External = true
same_family _ _ = false

-- whether every tree of kind k is also one of kind m
abbrev pub within : Kind → Kind → Bool
within k m = same_family (family_of k) (family_of m) && nat_le (rank k) (rank m) && nat_le (side k) (side m)

abbrev pub is_operand : Class → Bool
is_operand class.Name = true
is_operand class.NameOfCall = true
is_operand class.NameOfLabel = true
is_operand class.NameOfDecl = true
is_operand class.NameOfIterator = true
is_operand class.NameOfStarIterator = true
is_operand class.Operand = true
is_operand class.Str = true
is_operand _ = false

-- Whether a token by itself is a tree: names, constants and strings as expressions, names as declarators and
-- enumerators, metavariables for types as a Specs, and as a TypeName if no declarator follows; `...` and metavariables
-- for statements as statements.
abbrev pub has_leaf : Family → Class → Bool
has_leaf family.Expression c = is_operand c
has_leaf family.TypeName class.Typ = true
has_leaf family.Specs class.Typ = true
has_leaf family.Specs class.TypOfDeclarator = true
has_leaf family.Declarator c = fits word.Name c
has_leaf family.Enumerator c = fits word.Name c
has_leaf family.Statement class.Dots = true
has_leaf family.Statement class.Stmt = true
has_leaf _ _ = false
