-- The parts of a row, and the ways in which it may continue at a fork.
use Rattle.std.specs.Prelude.{List, [], ◌∷◌}
use Rattle.c_rows.specs.declared.class.Class.{Class}
use Rattle.c_rows.specs.declared.class.Class.TheVariants as class
use Rattle.c_rows.specs.declared.word.Word.TheVariants as word
use Rattle.c_rows.specs.declared.kind.Kind.TheVariants as kind
use Rattle.c_rows.specs.declared.symbol.Symbol.{Symbol}
use Rattle.c_rows.specs.declared.symbol.Symbol.TheVariants.{Word, Child, Argument, Fork}
use Rattle.c_rows.specs.declared.symbol.Fork as forks
use Rattle.c_rows.specs.declared.symbol.Fork.TheVariants as fork

abbrev pub Row : Type 0
Row = List Symbol

-- a token of this class
abbrev pub One : Class → Symbol
One c = Word (word.One c)

-- the ways in which a row may continue at a fork
abbrev pub ways : forks.Fork → List Row
-- two or more strings and names, no two names side by side, and at least one string
ways fork.FirstString =
    (Word word.Str ∷ Fork fork.SecondString ∷ [])
    ∷ (Word word.Name ∷ Word word.Str ∷ Fork fork.AfterString ∷ []) ∷ []
ways fork.SecondString =
    (Word word.Str ∷ Fork fork.AfterString ∷ [])
    ∷ (Word word.Name ∷ Fork fork.AfterName ∷ []) ∷ []
ways fork.AfterString =
    (Word word.Str ∷ Fork fork.AfterString ∷ [])
    ∷ (Word word.Name ∷ Fork fork.AfterName ∷ [])
    ∷ [] ∷ []
ways fork.AfterName = (Word word.Str ∷ Fork fork.AfterString ∷ []) ∷ [] ∷ []
-- members separated by commas, possibly none
ways fork.FirstArg = (Argument ∷ Fork fork.MoreArgs ∷ []) ∷ (Word word.ArgRun ∷ Fork fork.MoreArgs ∷ []) ∷ [] ∷ []
ways fork.MoreArgs = (One class.Comma ∷ Fork fork.NextArg ∷ []) ∷ [] ∷ []
ways fork.NextArg = (Argument ∷ Fork fork.MoreArgs ∷ []) ∷ (Word word.ArgRun ∷ Fork fork.MoreArgs ∷ []) ∷ []
-- two or more branches, all separated by `\|` or all by `\&`
ways fork.FirstBranch =
    (One class.PatBar ∷ Child kind.Expr ∷ Fork fork.MoreOr ∷ [])
    ∷ (One class.PatAmp ∷ Child kind.Expr ∷ Fork fork.MoreAnd ∷ []) ∷ []
ways fork.MoreOr = (One class.PatBar ∷ Child kind.Expr ∷ Fork fork.MoreOr ∷ []) ∷ (One class.PatClose ∷ []) ∷ []
ways fork.MoreAnd = (One class.PatAmp ∷ Child kind.Expr ∷ Fork fork.MoreAnd ∷ []) ∷ (One class.PatClose ∷ []) ∷ []
-- an optional declarator
ways fork.Nameless = (Child kind.Declarator ∷ []) ∷ [] ∷ []
-- modifiers in any order, with exactly one type part: basic words, a tag or a name
ways fork.NoType =
    (Word word.Modifier ∷ Fork fork.NoType ∷ [])
    ∷ (One class.Basic ∷ Fork fork.BasicType ∷ [])
    ∷ (Child kind.Tag ∷ Fork fork.OneType ∷ [])
    ∷ (Word word.Name ∷ Fork fork.OneType ∷ []) ∷ []
ways fork.BasicType = (Word word.BasicOrModifier ∷ Fork fork.BasicType ∷ []) ∷ [] ∷ []
ways fork.OneType = (Word word.Modifier ∷ Fork fork.OneType ∷ []) ∷ [] ∷ []
-- an optional name, and the members
ways fork.StructName =
    (Word word.Name ∷ One class.LeftBrace ∷ Fork fork.Members ∷ [])
    ∷ (One class.LeftBrace ∷ Fork fork.Members ∷ []) ∷ []
ways fork.Members =
    (Child kind.Field ∷ Fork fork.Members ∷ [])
    ∷ (Child kind.MacroItem ∷ Fork fork.Members ∷ [])
    ∷ (One class.RightBrace ∷ []) ∷ []
-- declarators and bits separated by commas, possibly none
ways fork.FirstField =
    (Child kind.FieldDeclarator ∷ Fork fork.MoreFields ∷ [])
    ∷ (Child kind.NamelessBits ∷ Fork fork.MoreFields ∷ [])
    ∷ (One class.Semicolon ∷ []) ∷ []
ways fork.MoreFields = (One class.Comma ∷ Fork fork.NextField ∷ []) ∷ (One class.Semicolon ∷ []) ∷ []
ways fork.NextField =
    (Child kind.FieldDeclarator ∷ Fork fork.MoreFields ∷ [])
    ∷ (Child kind.NamelessBits ∷ Fork fork.MoreFields ∷ []) ∷ []
-- an optional name, and enumerators separated by commas, with an optional trailing comma
ways fork.EnumName =
    (Word word.Name ∷ One class.LeftBrace ∷ Child kind.Enumerator ∷ Fork fork.MoreEnumerators ∷ [])
    ∷ (One class.LeftBrace ∷ Child kind.Enumerator ∷ Fork fork.MoreEnumerators ∷ []) ∷ []
ways fork.MoreEnumerators = (One class.Comma ∷ Fork fork.NextEnumerator ∷ []) ∷ (One class.RightBrace ∷ []) ∷ []
ways fork.NextEnumerator = (Child kind.Enumerator ∷ Fork fork.MoreEnumerators ∷ []) ∷ (One class.RightBrace ∷ []) ∷ []
-- qualifiers, and an optional declarator
ways fork.Pointee = (One class.Qualifier ∷ Fork fork.Pointee ∷ []) ∷ (Child kind.Declarator ∷ []) ∷ [] ∷ []
-- an optional size
ways fork.Size = (Child kind.CondLevel ∷ One class.RightBracket ∷ []) ∷ (One class.RightBracket ∷ []) ∷ []
-- parameters separated by commas, possibly none; the last may be `...`
ways fork.FirstParam =
    (Child kind.Param ∷ Fork fork.MoreParams ∷ [])
    ∷ (Word word.ParamRun ∷ Fork fork.MoreParams ∷ [])
    ∷ (One class.Ellipsis ∷ [])
    ∷ [] ∷ []
ways fork.MoreParams = (One class.Comma ∷ Fork fork.NextParam ∷ []) ∷ [] ∷ []
ways fork.NextParam =
    (Child kind.Param ∷ Fork fork.MoreParams ∷ [])
    ∷ (Word word.ParamRun ∷ Fork fork.MoreParams ∷ [])
    ∷ (One class.Ellipsis ∷ []) ∷ []
-- an optional declarator
ways fork.ParamName = (Child kind.Declarator ∷ []) ∷ [] ∷ []
-- members separated by commas, possibly none, with an optional trailing comma
ways fork.FirstInit =
    (Child kind.AssignLevel ∷ Fork fork.MoreInits ∷ [])
    ∷ (Child kind.InitList ∷ Fork fork.MoreInits ∷ [])
    ∷ (Child kind.InitItem ∷ Fork fork.MoreInits ∷ [])
    ∷ (One class.Comma ∷ One class.RightBrace ∷ [])
    ∷ (One class.RightBrace ∷ []) ∷ []
ways fork.MoreInits = (One class.Comma ∷ Fork fork.NextInit ∷ []) ∷ (One class.RightBrace ∷ []) ∷ []
ways fork.NextInit =
    (Child kind.AssignLevel ∷ Fork fork.MoreInits ∷ [])
    ∷ (Child kind.InitList ∷ Fork fork.MoreInits ∷ [])
    ∷ (Child kind.InitItem ∷ Fork fork.MoreInits ∷ [])
    ∷ (One class.RightBrace ∷ []) ∷ []
-- further designators, `=`, and an expression or a list
ways fork.MoreDesignators =
    (Child kind.Designator ∷ Fork fork.MoreDesignators ∷ [])
    ∷ (One class.Equal ∷ Fork fork.ItemValue ∷ []) ∷ []
ways fork.ItemValue = (Child kind.AssignLevel ∷ []) ∷ (Child kind.InitList ∷ []) ∷ []
-- `]`, or `... e ]`
ways fork.AtEnd =
    (One class.RightBracket ∷ [])
    ∷ (One class.Ellipsis ∷ Child kind.CondLevel ∷ One class.RightBracket ∷ []) ∷ []
-- storage words, a name, its arguments
ways fork.MacroWords =
    (Word word.Storage ∷ Fork fork.MacroWords ∷ [])
    ∷ (Word word.Name ∷ Word word.AnyOpen ∷ Child kind.Args ∷ One class.Close ∷ One class.Semicolon ∷ []) ∷ []
-- declarators and initialisers separated by commas, possibly none
ways fork.FirstDeclarator =
    (Child kind.InitDeclarator ∷ Fork fork.MoreDeclarators ∷ [])
    ∷ (One class.Semicolon ∷ []) ∷ []
ways fork.MoreDeclarators =
    (One class.Comma ∷ Child kind.InitDeclarator ∷ Fork fork.MoreDeclarators ∷ [])
    ∷ (One class.Semicolon ∷ []) ∷ []
-- an expression or a list
ways fork.InitValue =
    (Child kind.AssignLevel ∷ [])
    ∷ (Child kind.InitList ∷ []) ∷ []
-- declarations and statements, no two of `...` and PatNest side by side, and `}`
ways fork.BlockStatements =
    (Child kind.Decl ∷ Fork fork.BlockStatements ∷ [])
    ∷ (Child kind.Statement ∷ Fork fork.BlockStatements ∷ [])
    ∷ (One class.Dots ∷ Fork fork.BlockBehindDots ∷ [])
    ∷ (Child kind.PatNest ∷ Fork fork.BlockBehindDots ∷ [])
    ∷ (One class.RightBrace ∷ []) ∷ []
ways fork.BlockBehindDots =
    (Child kind.Decl ∷ Fork fork.BlockStatements ∷ [])
    ∷ (Child kind.Statement ∷ Fork fork.BlockStatements ∷ [])
    ∷ (One class.RightBrace ∷ []) ∷ []
-- an optional `else` and its body
ways fork.ElseOrNot =
    (One class.Else ∷ Child kind.Body ∷ [])
    ∷ [] ∷ []
-- what is in the brackets, and a body
ways fork.ForInit =
    (Child kind.Decl ∷ Fork fork.ForTest ∷ [])
    ∷ (Child kind.Expr ∷ One class.Semicolon ∷ Fork fork.ForTest ∷ [])
    ∷ (One class.Semicolon ∷ Fork fork.ForTest ∷ []) ∷ []
ways fork.ForTest =
    (Child kind.Expr ∷ One class.Semicolon ∷ Fork fork.ForStep ∷ [])
    ∷ (One class.Semicolon ∷ Fork fork.ForStep ∷ []) ∷ []
ways fork.ForStep =
    (Child kind.Expr ∷ One class.Close ∷ Child kind.Body ∷ [])
    ∷ (One class.Close ∷ Child kind.Body ∷ []) ∷ []
-- `:`, or `... e :`
ways fork.CaseEnd =
    (One class.Colon ∷ [])
    ∷ (One class.Ellipsis ∷ Child kind.CondLevel ∷ One class.Colon ∷ []) ∷ []
-- an optional expression
ways fork.ReturnValue =
    (Child kind.Expr ∷ One class.Semicolon ∷ [])
    ∷ (One class.Semicolon ∷ []) ∷ []
-- declarations and statements, no two of `...` and PatNest side by side
ways fork.ListStatements =
    (Child kind.Decl ∷ Fork fork.ListStatements ∷ [])
    ∷ (Child kind.Statement ∷ Fork fork.ListStatements ∷ [])
    ∷ (One class.Dots ∷ Fork fork.ListBehindDots ∷ [])
    ∷ (Child kind.PatNest ∷ Fork fork.ListBehindDots ∷ [])
    ∷ [] ∷ []
ways fork.ListBehindDots =
    (Child kind.Decl ∷ Fork fork.ListStatements ∷ [])
    ∷ (Child kind.Statement ∷ Fork fork.ListStatements ∷ [])
    ∷ [] ∷ []
-- declarators and initialisers separated by commas, possibly none; or, after the first, a Block
ways fork.FirstExternal =
    (Child kind.InitDeclarator ∷ Fork fork.AfterExternal ∷ [])
    ∷ (One class.Semicolon ∷ []) ∷ []
ways fork.AfterExternal =
    (One class.Comma ∷ Child kind.InitDeclarator ∷ Fork fork.MoreDeclarators ∷ [])
    ∷ (One class.Semicolon ∷ [])
    ∷ (Child kind.Block ∷ []) ∷ []
-- storage words, a name, its arguments, and `;` or a Block
ways fork.MacroNames =
    (Word word.Storage ∷ Fork fork.MacroNames ∷ [])
    ∷ (Word word.Name ∷ Word word.AnyOpen ∷ Child kind.Args ∷ One class.Close ∷ Fork fork.MacroEnd ∷ []) ∷ []
ways fork.MacroEnd =
    (One class.Semicolon ∷ [])
    ∷ (Child kind.Block ∷ []) ∷ []
-- two or more lists of statements, all separated by `\|` or all by `\&`
ways fork.FirstList =
    (One class.PatBar ∷ Child kind.StmtList ∷ Fork fork.MoreListsOr ∷ [])
    ∷ (One class.PatAmp ∷ Child kind.StmtList ∷ Fork fork.MoreListsAnd ∷ []) ∷ []
ways fork.MoreListsOr =
    (One class.PatBar ∷ Child kind.StmtList ∷ Fork fork.MoreListsOr ∷ [])
    ∷ (One class.PatClose ∷ []) ∷ []
ways fork.MoreListsAnd =
    (One class.PatAmp ∷ Child kind.StmtList ∷ Fork fork.MoreListsAnd ∷ [])
    ∷ (One class.PatClose ∷ []) ∷ []
-- an expression, or declarations and statements as in a Block, and the sign that ends it
ways fork.NestStart =
    (One class.PatNestOfExpression ∷ Child kind.Expr ∷ One class.PatNestClose ∷ [])
    ∷ (One class.PatNestOfStatements ∷ Fork fork.NestStatements ∷ []) ∷ []
ways fork.NestStatements =
    (Child kind.Decl ∷ Fork fork.NestStatements ∷ [])
    ∷ (Child kind.Statement ∷ Fork fork.NestStatements ∷ [])
    ∷ (One class.Dots ∷ Fork fork.NestBehindDots ∷ [])
    ∷ (Child kind.PatNest ∷ Fork fork.NestBehindDots ∷ [])
    ∷ (One class.PatNestClose ∷ []) ∷ []
ways fork.NestBehindDots =
    (Child kind.Decl ∷ Fork fork.NestStatements ∷ [])
    ∷ (Child kind.Statement ∷ Fork fork.NestStatements ∷ [])
    ∷ (One class.PatNestClose ∷ []) ∷ []
