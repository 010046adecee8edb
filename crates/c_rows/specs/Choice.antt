-- How a reader of rows chooses by the class of the next token.
use Rattle.std.specs.Prelude.{ℕ, nat_le, Bool, true, false, not, ◌&&◌, ◌||◌, Option, Some, None, is_some, if◌then◌else◌, List, [], ◌∷◌}
use Rattle.std.specs.List.{list_all}
use Rattle.c_rows.specs.declared.class.Class.{Class}
use Rattle.c_rows.specs.declared.class.Class.TheVariants as class
use Rattle.c_rows.specs.declared.word.Word.TheVariants as word
use Rattle.c_rows.specs.declared.kind.Kind.{Kind}
use Rattle.c_rows.specs.declared.kind.Kind.TheVariants as kind
use Rattle.c_rows.specs.declared.kind.Family.{Family}
use Rattle.c_rows.specs.declared.kind.Family.TheVariants as family
use Rattle.c_rows.specs.declared.rule.Rule.{Rule}
use Rattle.c_rows.specs.declared.symbol.Symbol.TheVariants.{Word, Child, Argument, Fork}
use Rattle.c_rows.specs.declared.symbol.Fork as forks
use Rattle.c_rows.specs.declared.symbol.Fork.TheVariants as fork
use Rattle.c_rows.specs.Words.{begins_by_keyword, same_class, fits, begins_tag, begins_specs, ends_member}
use Rattle.c_rows.specs.Kinds.{family_of, same_family, within}
use Rattle.c_rows.specs.Forks.{Row, ways}
use Rattle.c_rows.specs.Rows.{kind_of, row, heads, tails}
use Rattle.c_rows.specs.Branches.{begins, begins_macro, begins_declaration, begins_dots, may_go}

-- ---- what may come first

abbrev pub begins_expression : Class → Bool
begins_expression class.Name = true
begins_expression class.NameOfString = true
begins_expression class.NameOfCall = true
begins_expression class.NameOfLabel = true
begins_expression class.NameOfDecl = true
begins_expression class.NameOfIterator = true
begins_expression class.NameOfStarIterator = true
begins_expression class.Operand = true
begins_expression class.Str = true
begins_expression class.StrOfString = true
begins_expression class.SizeofExpr = true
begins_expression class.SizeofType = true
begins_expression class.PatOpen = true
begins_expression c = fits word.AnyOpen c || same_class class.Step c || fits word.Prefix c

abbrev pub begins_declarator : Class → Bool
begins_declarator class.Star = true
begins_declarator class.LeftBracket = true
begins_declarator c = fits word.Name c || fits word.AnyOpen c

abbrev pub begins_statement : Class → Bool
begins_statement class.Semicolon = true
begins_statement class.LeftBrace = true
begins_statement class.Stmt = true
begins_statement class.PatOpenOfStatements = true
begins_statement c = begins_by_keyword c || begins_dots c || begins_expression c

-- whether a list of statements ends before this class
abbrev pub ends_list : Class → Bool
ends_list class.End = true
ends_list class.PatBar = true
ends_list class.PatAmp = true
ends_list class.PatClose = true
ends_list _ = false

abbrev pub begins_designator : Class → Bool
begins_designator class.Dot = true
begins_designator class.LeftBracket = true
begins_designator _ = false

-- Whether a tree of the family may begin with this class. If such a tree may have no tokens, this includes the classes
-- that may follow it.
abbrev pub first : Family → Class → Bool
first family.Expression c = begins_expression c
first family.Args c = begins_expression c || begins_specs c || fits word.ArgRun c || same_class class.Close c
first family.TypeArg c = begins_specs c
first family.TypeName c = begins_specs c
first family.Specs c = begins_specs c
first family.Param c = begins_specs c
first family.Tag c = begins_tag c
first family.Field c = begins_specs c && not (begins_macro c)
first family.MacroItem c = begins_macro c
first family.NamelessBits c = same_class class.Colon c
first family.Declarator c = begins_declarator c
first family.Params c = begins_specs c || fits word.ParamRun c || same_class class.Ellipsis c || same_class class.Close c
first family.InitList c = same_class class.LeftBrace c
first family.InitItem c = begins_designator c
first family.Designator c = begins_designator c
first family.Enumerator c = fits word.Name c
first family.Decl c = begins_specs c
first family.Statement c = begins_statement c
first family.StmtList c = begins_statement c || begins_declaration c || ends_list c
first family.External c = begins_specs c || begins_macro c || same_class class.Semicolon c

-- ---- forks

abbrev pub ends_type : Class → Bool
ends_type class.Close = true
ends_type class.Comma = true
ends_type class.End = true
ends_type _ = false

abbrev pub ends_item : Class → Bool
ends_item class.RightBrace = true
ends_item class.Comma = true
ends_item _ = false

abbrev pub ends_field : Class → Bool
ends_field class.Semicolon = true
ends_field class.Comma = true
ends_field _ = false

abbrev pub ends_declarator : Class → Bool
ends_declarator class.Colon = true
ends_declarator class.Semicolon = true
ends_declarator class.LeftBrace = true
ends_declarator c = ends_type c

-- whether a row that is at this fork may end before this class
abbrev pub stops_fork : forks.Fork → Class → Bool
stops_fork fork.FirstString c = not (fits word.Str c) && not (fits word.Name c)
stops_fork fork.SecondString c = not (fits word.Str c) && not (fits word.Name c)
stops_fork fork.AfterString c = not (fits word.Str c) && not (fits word.Name c)
stops_fork fork.AfterName c = not (fits word.Str c) && not (fits word.Name c)
stops_fork fork.FirstArg c = same_class class.Close c
stops_fork fork.MoreArgs c = same_class class.Close c
stops_fork fork.NextArg c = same_class class.Close c
stops_fork fork.Nameless c = ends_type c
stops_fork fork.NoType c = not (fits word.BasicOrModifier c)
stops_fork fork.BasicType c = not (fits word.BasicOrModifier c)
stops_fork fork.OneType c = not (fits word.BasicOrModifier c)
stops_fork fork.Pointee c = ends_declarator c || same_class class.Equal c
stops_fork fork.InitValue c = ends_declarator c
stops_fork fork.ListStatements c = ends_list c
stops_fork fork.ListBehindDots c = ends_list c
stops_fork fork.FirstParam c = same_class class.Close c
stops_fork fork.MoreParams c = same_class class.Close c
stops_fork fork.NextParam c = same_class class.Close c
stops_fork fork.ParamName c = ends_member c
stops_fork fork.MoreDesignators c = ends_item c
stops_fork fork.ItemValue c = ends_item c
stops_fork _ c = true

-- whether the way begins with this class
abbrev pub begins_way : forks.Fork → Row → Class → Bool
begins_way f [] c = stops_fork f c
begins_way f (Word w ∷ ps) c = fits w c
begins_way f (Child k ∷ ps) c = first (family_of k) c
begins_way f (Argument ∷ ps) c = begins_expression c || begins_specs c
begins_way f (Fork g ∷ ps) c = false

-- whether the row takes the way at this class
abbrev pub leads : forks.Fork → Row → Class → Bool
leads f ps c = may_go f ps c && begins_way f ps c

abbrev pub pick_way : forks.Fork → List Row → Class → Option Row
pick_way f [] c = None
pick_way f (ps ∷ more) c = if leads f ps c then Some ps else pick_way f more c

-- the way that a row takes at a fork
abbrev pub choose : forks.Fork → Class → Option Row
choose f c = pick_way f (ways f) c

-- whether the rest of a row may begin with this class
abbrev pub opens : Row → Class → Bool
opens [] c = true
opens (Word w ∷ ps) c = fits w c
opens (Child k ∷ ps) c = first (family_of k) c
opens (Argument ∷ ps) c = begins_expression c || begins_specs c
opens (Fork f ∷ ps) c = is_some (choose f c)

-- ---- rules

-- the kind of a rule's first part, if that part is of the rule's family
abbrev pub left_in : Family → Row → Option Kind
left_in f [] = None
left_in f (Word w ∷ ps) = None
left_in f (Child k ∷ ps) = if same_family (family_of k) f then Some k else None
left_in f (Argument ∷ ps) = None
left_in f (Fork g ∷ ps) = None

abbrev pub left : Rule → Option Kind
left r = left_in (family_of (kind_of r)) (row r)

abbrev pub tail_of : Row → Row
tail_of [] = []
tail_of (p ∷ ps) = ps

-- the parts that are read after the rule is chosen
abbrev pub own : Rule → Row
own r = if is_some (left r) then tail_of (row r) else row r

abbrev pub pick_head : List Rule → Class → Option Rule
pick_head [] c = None
pick_head (r ∷ rs) c = if begins r c && opens (row r) c then Some r else pick_head rs c

-- the rule whose row begins with this class
abbrev pub head : Family → Class → Option Rule
head f c = pick_head (heads f) c

abbrev pub pick_tail : List Rule → Class → Option Rule
pick_tail [] c = None
pick_tail (r ∷ rs) c = if opens (own r) c then Some r else pick_tail rs c

-- the rule whose row has this class after its first part
abbrev pub tail : Family → Class → Option Rule
tail f c = pick_tail (tails f) c

-- the tightest kind of a family, to which its leaves belong
abbrev pub bottom : Family → Kind
bottom family.Expression = kind.Post
bottom family.Args = kind.Args
bottom family.TypeArg = kind.TypeArg
bottom family.TypeName = kind.TypeName
bottom family.Specs = kind.Specs
bottom family.Tag = kind.Tag
bottom family.Field = kind.Field
bottom family.MacroItem = kind.MacroItem
bottom family.NamelessBits = kind.NamelessBits
bottom family.Declarator = kind.Direct
bottom family.Params = kind.Params
bottom family.Param = kind.Param
bottom family.InitList = kind.InitList
bottom family.InitItem = kind.InitItem
bottom family.Designator = kind.Designator
bottom family.Enumerator = kind.EnumName
bottom family.Decl = kind.Decl
bottom family.Statement = kind.PatNest
bottom family.StmtList = kind.StmtList
bottom family.External = kind.External

-- the families whose trees have at least one token
abbrev pub full : Family → Bool
full family.Args = false
full family.Params = false
full family.StmtList = false
full _ = true

-- ---- what may follow

-- the classes that may follow a tree of the widest kind
abbrev pub top : Family → Class → Bool
top family.Expression c = not (fits word.Str c) && not (fits word.Name c)
top family.Args c = same_class class.Close c
top family.TypeArg c = ends_member c
top family.TypeName c = ends_type c
top family.Specs c = not (fits word.BasicOrModifier c)
top family.NamelessBits c = ends_field c
top family.Declarator c = ends_declarator c
top family.Params c = same_class class.Close c
top family.Param c = ends_member c
top family.InitItem c = ends_item c
top family.Enumerator c = ends_item c
top family.StmtList c = ends_list c
top _ c = true

abbrev pub takes_left : Kind → Option Kind → Bool
takes_left k None = false
takes_left k (Some l) = within k l

abbrev pub reach : Kind → Option Rule → Bool
reach k None = false
reach k (Some r) = takes_left k (left r)

-- whether a tree of kind k may come before a token of this class
abbrev pub after : Kind → Class → Bool
after k c = top (family_of k) c || reach k (tail (family_of k) c)

abbrev pub quiet : Kind → Option Rule → Bool
quiet m None = true
quiet m (Some r) = not (within (kind_of r) m)

-- A token of this class does not make a tree of kind m longer.
abbrev pub stops : Kind → Class → Bool
stops m c = after m c && quiet m (tail (family_of m) c)

-- the same for the rest of a row
abbrev pub ends : Row → Class → Bool
ends [] c = true
ends (Word w ∷ ps) c = ends ps c
ends (Child k ∷ []) c = stops k c
ends (Child k ∷ p ∷ ps) c = ends (p ∷ ps) c
ends (Argument ∷ []) c = ends_member c
ends (Argument ∷ p ∷ ps) c = ends (p ∷ ps) c
ends (Fork f ∷ ps) c = stops_fork f c

-- ---- tests of the table

abbrev pub classes : List Class
classes =
    class.End ∷ class.Name ∷ class.NameOfString ∷ class.NameOfCall ∷ class.NameOfLabel ∷ class.NameOfDecl ∷
    class.NameOfIterator ∷ class.NameOfStarIterator ∷ class.Operand ∷ class.Str ∷ class.StrOfString ∷
    class.ParenNest ∷ class.ParenList ∷ class.CastNest ∷ class.CastList ∷ class.LiteralNest ∷ class.LiteralList ∷
    class.Close ∷ class.LeftBracket ∷ class.RightBracket ∷ class.LeftBrace ∷ class.RightBrace ∷ class.Dot ∷
    class.Arrow ∷ class.Step ∷ class.And ∷ class.Star ∷ class.Plus ∷ class.Not ∷ class.Slash ∷ class.Shift ∷
    class.Order ∷ class.Equality ∷ class.Xor ∷ class.Or ∷ class.AndAnd ∷ class.OrOr ∷ class.Question ∷
    class.ShortQuestion ∷ class.Colon ∷ class.Semicolon ∷ class.Comma ∷ class.Equal ∷ class.Assign ∷
    class.Ellipsis ∷ class.SizeofExpr ∷ class.SizeofType ∷ class.Basic ∷ class.Qualifier ∷ class.Function ∷
    class.Storage ∷ class.StorageOfMacro ∷ class.Struct ∷ class.StructBody ∷ class.Enum ∷ class.EnumBody ∷
    class.TypOfDeclarator ∷ class.Typ ∷ class.Dots ∷ class.ExprList ∷ class.ParamList ∷ class.Stmt ∷
    class.PatOpen ∷ class.PatOpenOfStatements ∷ class.PatBar ∷ class.PatAmp ∷ class.PatClose ∷
    class.PatNestOfExpression ∷ class.PatNestOfStatements ∷ class.PatNestClose ∷ class.If ∷ class.Else ∷
    class.While ∷ class.Do ∷ class.For ∷ class.Switch ∷ class.Case ∷ class.Default ∷ class.Return ∷ class.Goto ∷
    class.Break ∷ class.Continue ∷ class.Other ∷ []

abbrev pub every : (Class → Bool) → Bool
every p = list_all p classes

abbrev pub implies : Bool → Bool → Bool
implies true b = b
implies false b = true

-- each part stops where the next one begins
abbrev pub row_ok : Row → Bool
row_ok [] = true
row_ok (Word w ∷ ps) = row_ok ps
row_ok (Child k ∷ []) = true
row_ok (Child k ∷ p ∷ ps) = every (λ c. implies (opens (p ∷ ps) c) (stops k c)) && row_ok (p ∷ ps)
row_ok (Argument ∷ []) = true
row_ok (Argument ∷ p ∷ ps) = every (λ c. implies (opens (p ∷ ps) c) (ends_member c)) && row_ok (p ∷ ps)
row_ok (Fork f ∷ []) = true
row_ok (Fork f ∷ p ∷ ps) = false

-- 2 for a row whose first part may take no token, 1 for a fork, and 0 otherwise
abbrev pub weight : Row → ℕ
weight [] = 0
weight (Word w ∷ ps) = 0
weight (Child k ∷ ps) = if full (family_of k) then 0 else 2
weight (Argument ∷ ps) = 0
weight (Fork f ∷ ps) = 1

-- A part that may take no token comes before one that takes a token, or before a fork.
abbrev pub steady : Row → Bool
steady [] = true
steady (Word w ∷ ps) = steady ps
steady (Child k ∷ ps) = (full (family_of k) || nat_le (weight ps) 1) && steady ps
steady (Argument ∷ ps) = steady ps
steady (Fork f ∷ ps) = true

abbrev pub row_fine : Row → Bool
row_fine ps = row_ok ps && steady ps
