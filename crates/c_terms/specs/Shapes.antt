-- What a label is: an expression, a statement, a head with bodies, a list.
use Rattle.std.specs.Prelude.{ℕ, ◌+◌, Bool, true, false, ◌&&◌, ◌||◌, nat_eq, nat_lt}
use Rattle.c_terms.specs.declared.token.TokenKind.{TokenKind}
use Rattle.c_terms.specs.declared.token.TokenKind.TheVariants as kind
use Rattle.c_terms.specs.declared.label.Label.{Label}
use Rattle.c_terms.specs.declared.label.Label.TheVariants as label
use Rattle.c_terms.specs.declared.shape.Shape.{Shape}
use Rattle.c_terms.specs.declared.shape.Shape.TheVariants as shape
use Rattle.c_terms.specs.declared.tree.Tree.{Tree, out-Tree}
use Rattle.c_terms.specs.declared.tree.Tree.TheOpen.{Tree-F}

-- tokens that are expressions by themselves
abbrev pub is_operand : TokenKind → Bool
is_operand kind.Name = true
is_operand kind.Number = true
is_operand kind.Char = true
is_operand kind.Str = true
is_operand _ = false

-- a call's list of arguments and a type in it are not expressions
abbrev pub is_expression_label : Label → Bool
is_expression_label label.Strings = true
is_expression_label label.Paren = true
is_expression_label label.Index = true
is_expression_label label.Call = true
is_expression_label label.Member = true
is_expression_label label.Arrow = true
is_expression_label label.PostOp = true
is_expression_label label.Literal = true
is_expression_label label.PreOp = true
is_expression_label label.Unary = true
is_expression_label label.SizeofExpr = true
is_expression_label label.SizeofType = true
is_expression_label label.Cast = true
is_expression_label label.Binary = true
is_expression_label label.Cond = true
is_expression_label label.CondShort = true
is_expression_label label.Assign = true
is_expression_label label.Comma = true
is_expression_label _ = false

abbrev pub expression_at : Tree-F Tree → Bool
expression_at (Tree-F.Leaf token) = is_operand token.kind
expression_at (Tree-F.Branch l cs) = is_expression_label l

-- a token or a branch that is an expression of C
abbrev pub is_expression : Tree → Bool
is_expression t = expression_at (out-Tree t)

-- a declarator that is not a plain name
abbrev pub is_declarator_label : Label → Bool
is_declarator_label label.Pointer = true
is_declarator_label label.DParen = true
is_declarator_label label.DArray = true
is_declarator_label label.DFun = true
is_declarator_label _ = false

abbrev pub is_type_label : Label → Bool
is_type_label label.TypeName = true
is_type_label label.Specs = true
is_type_label _ = false

-- a declaration among statements counts as one
abbrev pub is_statement_label : Label → Bool
is_statement_label label.Decl = true
is_statement_label label.ExprStat = true
is_statement_label label.Empty = true
is_statement_label label.Block = true
is_statement_label label.If = true
is_statement_label label.IfElse = true
is_statement_label label.While = true
is_statement_label label.Do = true
is_statement_label label.For = true
is_statement_label label.ForDecl = true
is_statement_label label.Switch = true
is_statement_label label.Iterator = true
is_statement_label label.Case = true
is_statement_label label.CaseRange = true
is_statement_label label.Default = true
is_statement_label label.Label = true
is_statement_label label.Return = true
is_statement_label label.Goto = true
is_statement_label label.Break = true
is_statement_label label.Continue = true
is_statement_label _ = false

-- an item of a file
abbrev pub is_item_label : Label → Bool
is_item_label label.Decl = true
is_item_label label.MacroItem = true
is_item_label label.Empty = true
is_item_label label.FunDef = true
is_item_label label.MacroFun = true
is_item_label _ = false

-- statements and functions that have bodies
abbrev pub is_head_label : Label → Bool
is_head_label label.If = true
is_head_label label.IfElse = true
is_head_label label.While = true
is_head_label label.Do = true
is_head_label label.For = true
is_head_label label.ForDecl = true
is_head_label label.Switch = true
is_head_label label.Iterator = true
is_head_label label.FunDef = true
is_head_label label.MacroFun = true
is_head_label _ = false

-- whether child i of n is a body: the last child, the one before `else`, or that of `do`
abbrev pub is_body : Label → ℕ → ℕ → Bool
is_body label.IfElse n i = nat_eq i 4 || nat_eq i 6
is_body label.Do n i = nat_eq i 1
is_body l n i = is_head_label l && nat_eq (i + 1) n

-- whether child i belongs to the tail of `do`, which is `while (c);`
abbrev pub is_tail : Label → ℕ → Bool
is_tail label.Do i = nat_lt 1 i
is_tail _ i = false

-- how a pattern is compared with a tree
abbrev pub shape_of : Label → Shape
shape_of label.Args = shape.List
shape_of label.Params = shape.List
shape_of label.PatOr = shape.Or
shape_of label.PatAnd = shape.And
shape_of _ = shape.Plain

-- whether child i may fill an expression part of a row; a member's name, a label and a declarator's name never do
abbrev pub may_hold : Label → ℕ → Bool
may_hold label.Paren i = true
may_hold label.Index i = true
may_hold label.Call i = true
may_hold label.Args i = true
may_hold label.Member i = nat_eq i 0
may_hold label.Arrow i = nat_eq i 0
may_hold label.PostOp i = true
may_hold label.PreOp i = true
may_hold label.Unary i = true
may_hold label.SizeofExpr i = true
may_hold label.Cast i = true
may_hold label.Binary i = true
may_hold label.Cond i = true
may_hold label.CondShort i = true
may_hold label.Assign i = true
may_hold label.Comma i = true
may_hold label.Bits i = nat_lt 0 i
may_hold label.EnumValue i = nat_lt 0 i
may_hold label.DArray i = nat_lt 0 i
may_hold label.InitDecl i = nat_lt 0 i
may_hold label.InitList i = true
may_hold label.InitItem i = true
may_hold label.At i = true
may_hold label.AtRange i = true
may_hold label.ExprStat i = true
may_hold label.If i = true
may_hold label.IfElse i = true
may_hold label.While i = true
may_hold label.Do i = true
may_hold label.For i = true
may_hold label.ForDecl i = true
may_hold label.Switch i = true
may_hold label.Case i = true
may_hold label.CaseRange i = true
may_hold label.Return i = true
may_hold _ i = false

-- whether the child fills an expression part of the row
abbrev pub is_expression_part : Label → ℕ → Tree → Bool
is_expression_part l i child = may_hold l i && is_expression child
