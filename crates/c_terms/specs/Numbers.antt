-- The places of kinds and labels in their orders.
use Rattle.std.specs.Prelude.{ℕ, ◌+◌}
use Rattle.c_terms.specs.declared.token.MetaKind.{MetaKind}
use Rattle.c_terms.specs.declared.token.MetaKind.TheVariants as meta
use Rattle.c_terms.specs.declared.token.TokenKind.{TokenKind}
use Rattle.c_terms.specs.declared.token.TokenKind.TheVariants as kind
use Rattle.c_terms.specs.declared.label.Label.{Label}
use Rattle.c_terms.specs.declared.label.Label.TheVariants as label

abbrev pub meta_number : MetaKind → ℕ
meta_number meta.Expr = 0
meta_number meta.ExprList = 1
meta_number meta.Ident = 2
meta_number meta.Constant = 3
meta_number meta.Typ = 4
meta_number meta.Stmt = 5
meta_number meta.Params = 6

-- metavariables are between strays and dots, in the order of their own kinds
abbrev pub kind_number : TokenKind → ℕ
kind_number kind.Name = 0
kind_number kind.Keyword = 1
kind_number kind.Number = 2
kind_number kind.Char = 3
kind_number kind.Str = 4
kind_number kind.Punct = 5
kind_number kind.Stray = 6
kind_number (kind.Meta m) = meta_number m + 7
kind_number kind.Dots = 14
kind_number kind.Pat = 15

-- the order of the grammar's tables
abbrev pub label_number : Label → ℕ
label_number label.Strings = 0
label_number label.Paren = 1
label_number label.Index = 2
label_number label.Call = 3
label_number label.Args = 4
label_number label.TypeArg = 5
label_number label.Member = 6
label_number label.Arrow = 7
label_number label.PostOp = 8
label_number label.Literal = 9
label_number label.PreOp = 10
label_number label.Unary = 11
label_number label.SizeofExpr = 12
label_number label.SizeofType = 13
label_number label.Cast = 14
label_number label.Binary = 15
label_number label.Cond = 16
label_number label.CondShort = 17
label_number label.Assign = 18
label_number label.Comma = 19
label_number label.TypeName = 20
label_number label.Specs = 21
label_number label.StructUse = 22
label_number label.StructDef = 23
label_number label.Field = 24
label_number label.Bits = 25
label_number label.EnumUse = 26
label_number label.EnumDef = 27
label_number label.EnumValue = 28
label_number label.Pointer = 29
label_number label.DParen = 30
label_number label.DArray = 31
label_number label.DFun = 32
label_number label.Params = 33
label_number label.Param = 34
label_number label.Decl = 35
label_number label.InitDecl = 36
label_number label.InitList = 37
label_number label.InitItem = 38
label_number label.DotName = 39
label_number label.At = 40
label_number label.AtRange = 41
label_number label.MacroItem = 42
label_number label.ExprStat = 43
label_number label.Empty = 44
label_number label.Block = 45
label_number label.If = 46
label_number label.IfElse = 47
label_number label.While = 48
label_number label.Do = 49
label_number label.For = 50
label_number label.ForDecl = 51
label_number label.Switch = 52
label_number label.Iterator = 53
label_number label.Case = 54
label_number label.CaseRange = 55
label_number label.Default = 56
label_number label.Label = 57
label_number label.Return = 58
label_number label.Goto = 59
label_number label.Break = 60
label_number label.Continue = 61
label_number label.StmtList = 62
label_number label.FunDef = 63
label_number label.MacroFun = 64
label_number label.PatOr = 65
label_number label.PatAnd = 66
label_number label.PatNest = 67
