-- Kinds and labels are determined by their numbers.
use Rattle.std.proofs.Common.{◌≡◌, Some, refl, List, [], ◌∷◌}
use Rattle.std.specs.Prelude.{slice_get}
use Rattle.c_terms.specs.declared.token.MetaKind.TheVariants as meta
use Rattle.c_terms.specs.declared.token.TokenKind.{TokenKind}
use Rattle.c_terms.specs.declared.token.TokenKind.TheVariants as kind
use Rattle.c_terms.specs.declared.label.Label.{Label}
use Rattle.c_terms.specs.declared.label.Label.TheVariants as label
use Rattle.c_terms.specs.Numbers.{kind_number, label_number}

-- the kinds in their order
kinds : List TokenKind
kinds =
    kind.Name ∷ kind.Keyword ∷ kind.Number ∷ kind.Char ∷ kind.Str ∷ kind.Punct ∷ kind.Stray ∷
    kind.Meta meta.Expr ∷ kind.Meta meta.ExprList ∷ kind.Meta meta.Ident ∷ kind.Meta meta.Constant ∷ kind.Meta meta.Typ ∷
    kind.Meta meta.Stmt ∷ kind.Meta meta.Params ∷ kind.Dots ∷ kind.Pat ∷ []

kind_at : (k : TokenKind) → slice_get kinds (kind_number k) ≡ Some k
unfolding kinds
kind_at (kind.Meta meta.Expr) = refl
kind_at (kind.Meta _) = refl
kind_at _ = refl

pub kind_number-injective : (j k : TokenKind) → kind_number j ≡ kind_number k → j ≡ k
kind_number-injective j k e = let a = kind_at j in let b = kind_at k in cc

-- the labels in their order
labels : List Label
labels =
    label.Strings ∷ label.Paren ∷ label.Index ∷ label.Call ∷ label.Args ∷ label.TypeArg ∷ label.Member ∷
    label.Arrow ∷ label.PostOp ∷ label.Literal ∷ label.PreOp ∷ label.Unary ∷ label.SizeofExpr ∷
    label.SizeofType ∷ label.Cast ∷ label.Binary ∷ label.Cond ∷ label.CondShort ∷ label.Assign ∷ label.Comma ∷
    label.TypeName ∷ label.Specs ∷ label.StructUse ∷ label.StructDef ∷ label.Field ∷ label.Bits ∷ label.EnumUse ∷
    label.EnumDef ∷ label.EnumValue ∷ label.Pointer ∷ label.DParen ∷ label.DArray ∷ label.DFun ∷ label.Params ∷
    label.Param ∷ label.Decl ∷ label.InitDecl ∷ label.InitList ∷ label.InitItem ∷ label.DotName ∷ label.At ∷
    label.AtRange ∷ label.MacroItem ∷ label.ExprStat ∷ label.Empty ∷ label.Block ∷ label.If ∷ label.IfElse ∷
    label.While ∷ label.Do ∷ label.For ∷ label.ForDecl ∷ label.Switch ∷ label.Iterator ∷ label.Case ∷
    label.CaseRange ∷ label.Default ∷ label.Label ∷ label.Return ∷ label.Goto ∷ label.Break ∷ label.Continue ∷
    label.StmtList ∷ label.FunDef ∷ label.MacroFun ∷ label.PatOr ∷ label.PatAnd ∷ label.PatNest ∷ []

label_at : (l : Label) → slice_get labels (label_number l) ≡ Some l
unfolding labels
label_at label.Strings = refl
label_at _ = refl

pub label_number-injective : (l k : Label) → label_number l ≡ label_number k → l ≡ k
label_number-injective l k e = let a = label_at l in let b = label_at k in cc
