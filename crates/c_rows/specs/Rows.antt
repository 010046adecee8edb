-- The rows of the grammar: for each rule, the kind and the label of its branches, and their parts in order.
use Rattle.std.specs.Prelude.{List, [], ◌∷◌}
use Rattle.c_terms.specs.declared.label.Label.{Label}
use Rattle.c_terms.specs.declared.label.Label.TheVariants as label
use Rattle.c_terms.specs.declared.tree.Tree.{Tree}
use Rattle.c_terms.specs.declared.tree.Tree.TheVariants as tree
use Rattle.c_rows.specs.declared.class.Class.TheVariants as class
use Rattle.c_rows.specs.declared.word.Word.TheVariants as word
use Rattle.c_rows.specs.declared.kind.Kind.{Kind}
use Rattle.c_rows.specs.declared.kind.Kind.TheVariants as kind
use Rattle.c_rows.specs.declared.kind.Family.{Family}
use Rattle.c_rows.specs.declared.kind.Family.TheVariants as family
use Rattle.c_rows.specs.declared.labels.Naming.{Naming}
use Rattle.c_rows.specs.declared.labels.Naming.TheVariants.{Always, PatBySign, AtByRange, IfByElse, CaseByRange, ForByDecl}
use Rattle.c_rows.specs.declared.labels.Naming.TheVariants.{DeclByBlock, MacroByBlock}
use Rattle.c_rows.specs.declared.rule.Rule.{Rule}
use Rattle.c_rows.specs.declared.rule.Rule.TheVariants as rule
use Rattle.c_rows.specs.declared.symbol.Symbol.TheVariants.{Word, Child, Fork}
use Rattle.c_rows.specs.declared.symbol.Fork.TheVariants as fork
use Rattle.c_rows.specs.Labels.{named}
pub use Rattle.c_rows.specs.Forks.{Row, One, ways}

-- the tightest kind of a branch, how the branch is labelled, and its parts in order
pub record Production : Type 0 where
  pub kind : Kind
  pub naming : Naming
  pub parts : Row

abbrev pub Of : Kind → Naming → Row → Production
Of k n ps = record { kind = k; naming = n; parts = ps }

abbrev pub production : Rule → Production
-- ---- expressions

-- two or more strings and names: `"a" "b"`, `PRIu64 "x"`
production rule.Strings = Of kind.Post (Always label.Strings) (Fork fork.FirstString ∷ [])
-- `(` expression `)`: `(e)`
production rule.Paren = Of kind.Post (Always label.Paren) (Word word.ParenOpen ∷ Child kind.Expr ∷ One class.Close ∷ [])
-- `(` type-name `)` list of initialisers: `(T){ 1, 2 }`
production rule.Literal = Of kind.Post (Always label.Literal)
    (Word word.LiteralOpen ∷ Child kind.TypeName ∷ One class.Close ∷ Child kind.InitList ∷ [])
-- `(` type-name `)` cast-expression: `(T)e`
production rule.Cast = Of kind.CastLevel (Always label.Cast)
    (Word word.CastOpen ∷ Child kind.TypeName ∷ One class.Close ∷ Child kind.CastLevel ∷ [])
-- `++` or `--`, unary-expression: `++e`
production rule.PreOp = Of kind.Un (Always label.PreOp) (One class.Step ∷ Child kind.Un ∷ [])
-- `&`, `*`, `+`, `-`, `~` or `!`, cast-expression: `-e`
production rule.Unary = Of kind.Un (Always label.Unary) (Word word.Prefix ∷ Child kind.CastLevel ∷ [])
-- `sizeof` unary-expression: `sizeof e`
production rule.SizeofExpr = Of kind.Un (Always label.SizeofExpr) (One class.SizeofExpr ∷ Child kind.Un ∷ [])
-- `sizeof` or `_Alignof`, `(` type-name `)`: `sizeof(T)`
production rule.SizeofType = Of kind.Un (Always label.SizeofType)
    (One class.SizeofType ∷ Word word.AnyOpen ∷ Child kind.TypeName ∷ One class.Close ∷ [])
-- expressions between `\(` and `\)`, separated by `\|` or by `\&`: `\( a \| b \)`, `\( a \& b \)`
production rule.PatBranches = Of kind.Post PatBySign (One class.PatOpen ∷ Child kind.Expr ∷ Fork fork.FirstBranch ∷ [])
-- postfix-expression `[` expression `]`: `e[e]`
production rule.Index = Of kind.Post (Always label.Index)
    (Child kind.Post ∷ One class.LeftBracket ∷ Child kind.Expr ∷ One class.RightBracket ∷ [])
-- postfix-expression `(` arguments `)`: `f(a, b)`
production rule.Call = Of kind.Post (Always label.Call) (Child kind.Post ∷ Word word.AnyOpen ∷ Child kind.Args ∷ One class.Close ∷ [])
-- postfix-expression `.` name: `e.x`
production rule.Member = Of kind.Post (Always label.Member) (Child kind.Post ∷ One class.Dot ∷ Word word.Name ∷ [])
-- postfix-expression `->` name: `e->x`
production rule.Arrow = Of kind.Post (Always label.Arrow) (Child kind.Post ∷ One class.Arrow ∷ Word word.Name ∷ [])
-- postfix-expression, `++` or `--`: `e++`
production rule.PostOp = Of kind.Post (Always label.PostOp) (Child kind.Post ∷ One class.Step ∷ [])
-- logical-OR-expression `||` logical-AND-expression: `a || b`
production rule.OrOr = Of kind.OrOr (Always label.Binary) (Child kind.OrOr ∷ One class.OrOr ∷ Child kind.AndAnd ∷ [])
-- logical-AND-expression `&&` inclusive-OR-expression: `a && b`
production rule.AndAnd = Of kind.AndAnd (Always label.Binary) (Child kind.AndAnd ∷ One class.AndAnd ∷ Child kind.Or ∷ [])
-- inclusive-OR-expression `|` exclusive-OR-expression: `a | b`
production rule.Or = Of kind.Or (Always label.Binary) (Child kind.Or ∷ One class.Or ∷ Child kind.Xor ∷ [])
-- exclusive-OR-expression `^` AND-expression: `a ^ b`
production rule.Xor = Of kind.Xor (Always label.Binary) (Child kind.Xor ∷ One class.Xor ∷ Child kind.And ∷ [])
-- AND-expression `&` equality-expression: `a & b`
production rule.And = Of kind.And (Always label.Binary) (Child kind.And ∷ One class.And ∷ Child kind.Equality ∷ [])
-- equality-expression, `==` or `!=`, relational-expression: `a == b`
production rule.Equality = Of kind.Equality (Always label.Binary) (Child kind.Equality ∷ One class.Equality ∷ Child kind.Order ∷ [])
-- relational-expression, `<`, `>`, `<=` or `>=`, shift-expression: `a < b`
production rule.Order = Of kind.Order (Always label.Binary) (Child kind.Order ∷ One class.Order ∷ Child kind.Shift ∷ [])
-- shift-expression, `<<` or `>>`, additive-expression: `a << b`
production rule.Shift = Of kind.Shift (Always label.Binary) (Child kind.Shift ∷ One class.Shift ∷ Child kind.Sum ∷ [])
-- additive-expression, `+` or `-`, multiplicative-expression: `a + b`
production rule.Sum = Of kind.Sum (Always label.Binary) (Child kind.Sum ∷ One class.Plus ∷ Child kind.Product ∷ [])
-- multiplicative-expression, `*`, `/` or `%`, cast-expression: `a * b`
production rule.Product = Of kind.Product (Always label.Binary) (Child kind.Product ∷ Word word.Times ∷ Child kind.CastLevel ∷ [])
-- logical-OR-expression `?` expression `:` conditional-expression: `c ? a : b`
production rule.Cond = Of kind.CondLevel (Always label.Cond)
    (Child kind.OrOr ∷ One class.Question ∷ Child kind.Expr ∷ One class.Colon ∷ Child kind.CondLevel ∷ [])
-- logical-OR-expression `?` `:` conditional-expression: `c ?: b`
production rule.CondShort = Of kind.CondLevel (Always label.CondShort)
    (Child kind.OrOr ∷ One class.ShortQuestion ∷ One class.Colon ∷ Child kind.CondLevel ∷ [])
-- unary-expression, assignment operator, assignment-expression: `a = b`
production rule.Assign = Of kind.AssignLevel (Always label.Assign) (Child kind.Un ∷ Word word.Assign ∷ Child kind.AssignLevel ∷ [])
-- expression `,` assignment-expression: `a, b`
production rule.Comma = Of kind.Expr (Always label.Comma) (Child kind.Expr ∷ One class.Comma ∷ Child kind.AssignLevel ∷ [])
-- ---- argument lists

-- arguments separated by commas, possibly none: `a, b`
production rule.Args = Of kind.Args (Always label.Args) (Fork fork.FirstArg ∷ [])
-- a type as an argument: `int`
production rule.TypeArg = Of kind.TypeArg (Always label.TypeArg) (Child kind.TypeName ∷ [])
-- ---- types

-- type words, and an optional declarator without a name: `int *`
production rule.TypeName = Of kind.TypeName (Always label.TypeName) (Child kind.Specs ∷ Fork fork.Nameless ∷ [])
-- modifiers and one type part: `static const int`
production rule.Specs = Of kind.Specs (Always label.Specs) (Fork fork.NoType ∷ [])
-- `struct` or `union`, name: `struct s`
production rule.StructUse = Of kind.Tag (Always label.StructUse) (One class.Struct ∷ Word word.Name ∷ [])
-- `struct` or `union`, an optional name, members in braces: `struct s { int x; }`
production rule.StructDef = Of kind.Tag (Always label.StructDef) (One class.StructBody ∷ Fork fork.StructName ∷ [])
-- `enum` name: `enum e`
production rule.EnumUse = Of kind.Tag (Always label.EnumUse) (One class.Enum ∷ Word word.Name ∷ [])
-- `enum`, an optional name, enumerators in braces: `enum e { A, B = 2 }`
production rule.EnumDef = Of kind.Tag (Always label.EnumDef) (One class.EnumBody ∷ Fork fork.EnumName ∷ [])
-- type words, declarators and bits separated by commas (possibly none), `;`: `int x, y : 3;`
production rule.Field = Of kind.Field (Always label.Field) (Child kind.Specs ∷ Fork fork.FirstField ∷ [])
-- storage words, name, `(` arguments `)` `;`: `static MACRO(x);`
production rule.MacroItem = Of kind.MacroItem (Always label.MacroItem) (Fork fork.MacroWords ∷ [])
-- `:` conditional-expression: `: 3`
production rule.NamelessBits = Of kind.NamelessBits (Always label.Bits) (One class.Colon ∷ Child kind.CondLevel ∷ [])
-- ---- declarators

-- `*`, qualifiers, an optional declarator: `*const d`
production rule.Pointer = Of kind.Declarator (Always label.Pointer) (One class.Star ∷ Fork fork.Pointee ∷ [])
-- `(` declarator `)`: `(d)`
production rule.DParen = Of kind.Direct (Always label.DParen) (Word word.NestOpen ∷ Child kind.Declarator ∷ One class.Close ∷ [])
-- `[` an optional size `]`, when no name is declared: `[3]`
production rule.NamelessArray = Of kind.Direct (Always label.DArray) (One class.LeftBracket ∷ Fork fork.Size ∷ [])
-- `(` parameters `)`, when no name is declared: `(int x)`
production rule.NamelessFun = Of kind.Direct (Always label.DFun) (Word word.ListOpen ∷ Child kind.Params ∷ One class.Close ∷ [])
-- direct-declarator `[` an optional size `]`: `d[3]`
production rule.DArray = Of kind.Direct (Always label.DArray) (Child kind.Direct ∷ One class.LeftBracket ∷ Fork fork.Size ∷ [])
-- direct-declarator `(` parameters `)`: `d(int x)`
production rule.DFun = Of kind.Direct (Always label.DFun) (Child kind.Direct ∷ Word word.AnyOpen ∷ Child kind.Params ∷ One class.Close ∷ [])
-- declarator `:` conditional-expression: `y : 3`
production rule.Bits = Of kind.FieldDeclarator (Always label.Bits) (Child kind.Declarator ∷ One class.Colon ∷ Child kind.CondLevel ∷ [])
-- declarator `=` an expression or a list of initialisers: `x = 1`
production rule.InitDecl = Of kind.InitDeclarator (Always label.InitDecl)
    (Child kind.Declarator ∷ One class.Equal ∷ Fork fork.InitValue ∷ [])
-- parameters separated by commas, possibly none: `int x, ...`
production rule.Params = Of kind.Params (Always label.Params) (Fork fork.FirstParam ∷ [])
-- type words, and an optional declarator: `int x`
production rule.Param = Of kind.Param (Always label.Param) (Child kind.Specs ∷ Fork fork.ParamName ∷ [])
-- ---- initialisers

-- initialisers in braces, separated by commas: `{ 1, .x = 2, }`
production rule.InitList = Of kind.InitList (Always label.InitList) (One class.LeftBrace ∷ Fork fork.FirstInit ∷ [])
-- designators `=` an expression or a list: `.x[2] = 3`
production rule.InitItem = Of kind.InitItem (Always label.InitItem) (Child kind.Designator ∷ Fork fork.MoreDesignators ∷ [])
-- `.` name: `.x`
production rule.DotName = Of kind.Designator (Always label.DotName) (One class.Dot ∷ Word word.Name ∷ [])
-- `[` conditional-expression `]`, or with a range: `[2]`, `[2 ... 5]`
production rule.At = Of kind.Designator AtByRange (One class.LeftBracket ∷ Child kind.CondLevel ∷ Fork fork.AtEnd ∷ [])
-- ---- enumerators

-- name `=` conditional-expression: `B = 2`
production rule.EnumValue = Of kind.Enumerator (Always label.EnumValue) (Child kind.EnumName ∷ One class.Equal ∷ Child kind.CondLevel ∷ [])
-- ---- declarations

-- type words, declarators and initialisers separated by commas (possibly none), `;`: `int x = 1, y;`
production rule.Decl = Of kind.Decl (Always label.Decl) (Child kind.Specs ∷ Fork fork.FirstDeclarator ∷ [])
-- ---- statements

-- expression `;`: `f();`
production rule.ExprStat = Of kind.Body (Always label.ExprStat) (Child kind.Expr ∷ One class.Semicolon ∷ [])
-- `if` `(` expression `)` body, and optionally `else` body: `if (c) f(); else g();`
production rule.If = Of kind.Body IfByElse
    (One class.If ∷ Word word.AnyOpen ∷ Child kind.Expr ∷ One class.Close ∷ Child kind.Body ∷ Fork fork.ElseOrNot ∷ [])
-- `return` an optional expression `;`: `return e;`
production rule.Return = Of kind.Body (Always label.Return) (One class.Return ∷ Fork fork.ReturnValue ∷ [])
-- `{` statements `}`: `{ f(); }`
production rule.Block = Of kind.Block (Always label.Block) (One class.LeftBrace ∷ Fork fork.BlockStatements ∷ [])
-- `goto` name `;`: `goto out;`
production rule.Goto = Of kind.Body (Always label.Goto) (One class.Goto ∷ Word word.Name ∷ One class.Semicolon ∷ [])
-- name `:`: `out:`
production rule.Label = Of kind.Statement (Always label.Label) (One class.NameOfLabel ∷ One class.Colon ∷ [])
-- `case` expression `:`, or with a range: `case 1:`, `case 1 ... 2:`
production rule.Case = Of kind.Statement CaseByRange (One class.Case ∷ Child kind.Expr ∷ Fork fork.CaseEnd ∷ [])
-- `break` `;`
production rule.Break = Of kind.Body (Always label.Break) (One class.Break ∷ One class.Semicolon ∷ [])
-- `for` `(`, a declaration or an optional expression and `;`, an optional expression and `;`, an optional expression, `)` body:
-- `for (;;) f();`
production rule.For = Of kind.Body ForByDecl (One class.For ∷ Word word.AnyOpen ∷ Fork fork.ForInit ∷ [])
-- `while` `(` expression `)` body: `while (c) f();`
production rule.While = Of kind.Body (Always label.While)
    (One class.While ∷ Word word.AnyOpen ∷ Child kind.Expr ∷ One class.Close ∷ Child kind.Body ∷ [])
-- `switch` `(` expression `)` body: `switch (e) { }`
production rule.Switch = Of kind.Body (Always label.Switch)
    (One class.Switch ∷ Word word.AnyOpen ∷ Child kind.Expr ∷ One class.Close ∷ Child kind.Body ∷ [])
-- name `(` arguments `)` body: `list_for_each(p, head) f(p);`
production rule.Iterator = Of kind.Body (Always label.Iterator)
    (Word word.IteratorName ∷ Word word.AnyOpen ∷ Child kind.Args ∷ One class.Close ∷ Child kind.Body ∷ [])
-- `default` `:`
production rule.Default = Of kind.Statement (Always label.Default) (One class.Default ∷ One class.Colon ∷ [])
-- `continue` `;`
production rule.Continue = Of kind.Body (Always label.Continue) (One class.Continue ∷ One class.Semicolon ∷ [])
-- `do` body `while` `(` expression `)` `;`: `do f(); while (c);`
production rule.Do = Of kind.Body (Always label.Do)
    (One class.Do ∷ Child kind.Body ∷ One class.While ∷ Word word.AnyOpen ∷ Child kind.Expr ∷ One class.Close ∷ One class.Semicolon ∷ [])
-- `;`
production rule.Empty = Of kind.Body (Always label.Empty) (One class.Semicolon ∷ [])
-- lists of statements between `\(` and `\)`, separated by `\|` or by `\&`: `\( f(); \| g(); \)`
production rule.PatLists = Of kind.Body PatBySign (One class.PatOpenOfStatements ∷ Child kind.StmtList ∷ Fork fork.FirstList ∷ [])
-- `<...` or `<+...`, an expression or statements, `...>` or `...+>`: `<... f(x) ...>`
production rule.PatNest = Of kind.PatNest (Always label.PatNest) (Fork fork.NestStart ∷ [])
-- statements: `f(); g();`
production rule.StmtList = Of kind.StmtList (Always label.StmtList) (Fork fork.ListStatements ∷ [])
-- ---- items

-- type words, a declarator and a Block, or the parts of a Decl: `int f(void) { }`, `int x = 1, y;`
production rule.External = Of kind.External DeclByBlock (Child kind.Specs ∷ Fork fork.FirstExternal ∷ [])
-- storage words, name, `(` arguments `)`, and `;` or a Block: `MACRO(x);`, `MACRO(x) { }`
production rule.ExternalMacro = Of kind.External MacroByBlock (Fork fork.MacroNames ∷ [])
-- `;`
production rule.ExternalEmpty = Of kind.External (Always label.Empty) (One class.Semicolon ∷ [])

-- ---- what the production says of a rule

abbrev pub kind_of : Rule → Kind
kind_of r = (production r).kind

abbrev pub row : Rule → Row
row r = (production r).parts

abbrev pub naming_of : Rule → Naming
naming_of r = (production r).naming

-- the label of a branch of the rule with these children
abbrev pub label_of : Rule → List Tree → Label
label_of r cs = named (naming_of r) cs

abbrev pub build : Rule → List Tree → Tree
build r cs = tree.Branch (label_of r cs) cs

-- ---- the rules of each family

-- those whose rows don't begin with a part of the family itself
abbrev pub heads : Family → List Rule
heads family.Expression =
    rule.Strings ∷ rule.Paren ∷ rule.Literal ∷ rule.Cast ∷ rule.PreOp ∷ rule.Unary ∷ rule.SizeofExpr ∷ rule.SizeofType ∷
    rule.PatBranches ∷ []
heads family.Args = rule.Args ∷ []
heads family.TypeArg = rule.TypeArg ∷ []
heads family.TypeName = rule.TypeName ∷ []
heads family.Specs = rule.Specs ∷ []
heads family.Tag = rule.StructUse ∷ rule.StructDef ∷ rule.EnumUse ∷ rule.EnumDef ∷ []
heads family.Field = rule.Field ∷ []
heads family.MacroItem = rule.MacroItem ∷ []
heads family.NamelessBits = rule.NamelessBits ∷ []
heads family.Declarator = rule.Pointer ∷ rule.DParen ∷ rule.NamelessArray ∷ rule.NamelessFun ∷ []
heads family.Params = rule.Params ∷ []
heads family.Param = rule.Param ∷ []
heads family.InitList = rule.InitList ∷ []
heads family.InitItem = rule.InitItem ∷ []
heads family.Designator = rule.DotName ∷ rule.At ∷ []
heads family.Enumerator = []
heads family.Decl = rule.Decl ∷ []
heads family.Statement =
    rule.ExprStat ∷ rule.If ∷ rule.Return ∷ rule.Block ∷ rule.Goto ∷ rule.Label ∷ rule.Case ∷ rule.Break ∷ rule.For ∷
    rule.While ∷ rule.Switch ∷ rule.Iterator ∷ rule.Default ∷ rule.Continue ∷ rule.Do ∷ rule.Empty ∷ rule.PatLists ∷
    rule.PatNest ∷ []
heads family.StmtList = rule.StmtList ∷ []
heads family.External = rule.External ∷ rule.ExternalMacro ∷ rule.ExternalEmpty ∷ []

-- those whose rows begin with a part of the family itself
abbrev pub tails : Family → List Rule
tails family.Expression =
    rule.Index ∷ rule.Call ∷ rule.Member ∷ rule.Arrow ∷ rule.PostOp ∷ rule.OrOr ∷ rule.AndAnd ∷ rule.Or ∷ rule.Xor ∷
    rule.And ∷ rule.Equality ∷ rule.Order ∷ rule.Shift ∷ rule.Sum ∷ rule.Product ∷ rule.Cond ∷ rule.CondShort ∷
    rule.Assign ∷ rule.Comma ∷ []
tails family.Declarator = rule.DArray ∷ rule.DFun ∷ rule.Bits ∷ rule.InitDecl ∷ []
tails family.Enumerator = rule.EnumValue ∷ []
tails _ = []
