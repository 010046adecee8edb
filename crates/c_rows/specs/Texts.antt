-- Keywords and signs: the class that each has by itself.
use Rattle.std.specs.Prelude.{ℕ, if◌then◌else◌, List, [], ◌∷◌, codes}
use Rattle.std.specs.Str.{bytes_eq}
use Rattle.c_rows.specs.declared.class.Class.{Class}
use Rattle.c_rows.specs.declared.class.Class.TheVariants as class

-- the keywords of statements (C11 6.8)
abbrev pub statement_keywords : List (List ℕ × Class)
statement_keywords =
    (codes "if", class.If)
    ∷ (codes "else", class.Else)
    ∷ (codes "while", class.While)
    ∷ (codes "do", class.Do)
    ∷ (codes "for", class.For)
    ∷ (codes "switch", class.Switch)
    ∷ (codes "case", class.Case)
    ∷ (codes "default", class.Default)
    ∷ (codes "return", class.Return)
    ∷ (codes "goto", class.Goto)
    ∷ (codes "break", class.Break)
    ∷ (codes "continue", class.Continue) ∷ []

-- qualifiers without `_Atomic`, storage words, function specifiers, tags (C11 6.7.1 to 6.7.4), and operators (6.5.3)
abbrev pub type_keywords : List (List ℕ × Class)
type_keywords =
    (codes "const", class.Qualifier)
    ∷ (codes "volatile", class.Qualifier)
    ∷ (codes "restrict", class.Qualifier)
    ∷ (codes "static", class.Storage)
    ∷ (codes "extern", class.Storage)
    ∷ (codes "typedef", class.Storage)
    ∷ (codes "register", class.Storage)
    ∷ (codes "auto", class.Storage)
    ∷ (codes "_Thread_local", class.Storage)
    ∷ (codes "inline", class.Function)
    ∷ (codes "_Noreturn", class.Function)
    ∷ (codes "struct", class.Struct)
    ∷ (codes "union", class.Struct)
    ∷ (codes "enum", class.Enum)
    ∷ (codes "sizeof", class.SizeofExpr)
    ∷ (codes "_Alignof", class.SizeofType)
    ∷ statement_keywords

-- the keywords that have rows: those above, and the words of a basic type (C11 6.7.2)
abbrev pub keywords : List (List ℕ × Class)
keywords =
    (codes "int", class.Basic)
    ∷ (codes "void", class.Basic)
    ∷ (codes "char", class.Basic)
    ∷ (codes "unsigned", class.Basic)
    ∷ (codes "long", class.Basic)
    ∷ (codes "short", class.Basic)
    ∷ (codes "signed", class.Basic)
    ∷ (codes "float", class.Basic)
    ∷ (codes "double", class.Basic)
    ∷ (codes "_Bool", class.Basic)
    ∷ (codes "_Complex", class.Basic)
    ∷ type_keywords

-- the punctuators of C11 6.4.6 that have rows
abbrev pub signs : List (List ℕ × Class)
signs =
    (codes "(", class.ParenNest)
    ∷ (codes ")", class.Close)
    ∷ (codes ",", class.Comma)
    ∷ (codes ";", class.Semicolon)
    ∷ (codes "->", class.Arrow)
    ∷ (codes ".", class.Dot)
    ∷ (codes "=", class.Equal)
    ∷ (codes "[", class.LeftBracket)
    ∷ (codes "]", class.RightBracket)
    ∷ (codes "{", class.LeftBrace)
    ∷ (codes "}", class.RightBrace)
    ∷ (codes "*", class.Star)
    ∷ (codes "&", class.And)
    ∷ (codes "+", class.Plus)
    ∷ (codes "-", class.Plus)
    ∷ (codes "!", class.Not)
    ∷ (codes "~", class.Not)
    ∷ (codes "?", class.Question)
    ∷ (codes ":", class.Colon)
    ∷ (codes "...", class.Ellipsis)
    ∷ (codes "++", class.Step)
    ∷ (codes "--", class.Step)
    ∷ (codes "==", class.Equality)
    ∷ (codes "!=", class.Equality)
    ∷ (codes "<", class.Order)
    ∷ (codes ">", class.Order)
    ∷ (codes "<=", class.Order)
    ∷ (codes ">=", class.Order)
    ∷ (codes "&&", class.AndAnd)
    ∷ (codes "||", class.OrOr)
    ∷ (codes "|", class.Or)
    ∷ (codes "^", class.Xor)
    ∷ (codes "/", class.Slash)
    ∷ (codes "%", class.Slash)
    ∷ (codes "<<", class.Shift)
    ∷ (codes ">>", class.Shift)
    ∷ (codes "*=", class.Assign)
    ∷ (codes "/=", class.Assign)
    ∷ (codes "%=", class.Assign)
    ∷ (codes "+=", class.Assign)
    ∷ (codes "-=", class.Assign)
    ∷ (codes "<<=", class.Assign)
    ∷ (codes ">>=", class.Assign)
    ∷ (codes "&=", class.Assign)
    ∷ (codes "^=", class.Assign)
    ∷ (codes "|=", class.Assign) ∷ []

-- the signs of patterns
abbrev pub pattern_signs : List (List ℕ × Class)
pattern_signs =
    (codes "\\(", class.PatOpen)
    ∷ (codes "\\|", class.PatBar)
    ∷ (codes "\\&", class.PatAmp)
    ∷ (codes "\\)", class.PatClose)
    ∷ (codes "<...", class.PatNestOfExpression)
    ∷ (codes "<+...", class.PatNestOfExpression)
    ∷ (codes "...>", class.PatNestClose)
    ∷ (codes "...+>", class.PatNestClose) ∷ []

-- the class that the list assigns to the text
abbrev pub class_in : List (List ℕ × Class) → List ℕ → Class
class_in [] s = class.Other
class_in (w ∷ ws) s = if bytes_eq s w.0 then w.1 else class_in ws s
