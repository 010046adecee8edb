-- The classes that a token of each kind can have. A fact about kinds and classes is then a test over both.
use Rattle.std.proofs.Common.{ℕ, List, [], ◌∷◌, refl}
use Rattle.std.specs.Prelude.{Bool, true, false, ◌&&◌, ◌||◌, if◌then◌else◌, IsTrue, codes}
use Rattle.std.specs.List.{list_all}
use Rattle.std.specs.Str.{bytes_eq}
use Rattle.c_terms.specs.declared.token.Token.{Token}
use Rattle.c_terms.specs.declared.token.TokenKind.{TokenKind}
use Rattle.c_terms.specs.declared.token.TokenKind.TheVariants as token
use Rattle.c_terms.specs.declared.token.MetaKind.{MetaKind}
use Rattle.c_terms.specs.declared.token.MetaKind.TheVariants as meta
use Rattle.c_rows.specs.declared.class.Class.{Class}
use Rattle.c_rows.specs.declared.class.Class.TheVariants as class
use Rattle.c_rows.specs.declared.word.Word.TheVariants as word
use Rattle.c_rows.specs.Texts.{keywords, signs, pattern_signs, class_in}
use Rattle.c_rows.specs.Tokens.{is_string, is_sign}
use Rattle.c_rows.specs.Words.{same_class, fits}
use Rattle.c_rows.specs.Look.{Names, look, at_sign, at_name, at_string, has_members, begins_type, begins_unknown_cast}
use Rattle.c_rows.specs.Look.{begins_nest, nest_or, closes_before_brace, is_name_before_brace, bracket, class_of}
use Rattle.c_rows.specs.Look.{keyword_before, storage, sizeof, sizeof_bracket, alignof, sign_before, name, name_of_bracket}
use Rattle.c_rows.specs.Look.{metavariable, pattern_before, declares, iterates, is_of_statements, has_semicolon}
use Rattle.c_rows.specs.Choice.{implies}
use Rattle.c_rows.proofs.FirstChecks.{and_left, and_right, modus, Passes, passes_at}

-- ---- the classes of a kind

abbrev any_class : List (List ℕ × Class) → Class → Bool
any_class [] c = false
any_class (w ∷ ws) c = same_class c w.1 || any_class ws c

abbrev of_keyword : Class → Bool
of_keyword class.StorageOfMacro = true
of_keyword class.StructBody = true
of_keyword class.EnumBody = true
of_keyword class.Other = true
of_keyword c = any_class keywords c

abbrev of_sign : Class → Bool
of_sign class.ShortQuestion = true
of_sign class.Other = true
of_sign c = fits word.AnyOpen c || any_class signs c

abbrev of_pattern : Class → Bool
of_pattern class.PatOpenOfStatements = true
of_pattern class.PatNestOfStatements = true
of_pattern class.Other = true
of_pattern c = any_class pattern_signs c

abbrev of_type : Class → Bool
of_type class.Typ = true
of_type class.TypOfDeclarator = true
of_type _ = false

abbrev of_meta : MetaKind → Class → Bool
of_meta meta.Expr c = same_class c class.Operand
of_meta meta.Constant c = same_class c class.Operand
of_meta meta.ExprList c = same_class c class.ExprList
of_meta meta.Ident c = fits word.Name c
of_meta meta.Typ c = of_type c
of_meta meta.Params c = same_class c class.ParamList
of_meta meta.Stmt c = same_class c class.Stmt

-- whether a token of this kind can have the class
abbrev pub gives : TokenKind → Class → Bool
gives token.Name c = fits word.Name c
gives token.Keyword c = of_keyword c
gives token.Number c = same_class c class.Operand
gives token.Char c = same_class c class.Operand
gives token.Str c = fits word.Str c
gives token.Punct c = of_sign c
gives token.Stray c = same_class c class.Other
gives (token.Meta k) c = of_meta k c
gives token.Dots c = same_class c class.Dots
gives token.Pat c = of_pattern c

-- ---- no kind has any other

pick : (p : Class → Bool) (b : Bool) (x y : Class) → IsTrue (p x) → IsTrue (p y) → IsTrue (p (if b then x else y))
pick p true x y h g = h
pick p false x y h g = g

class_in_of : (p : Class → Bool) (ws : List (List ℕ × Class)) (s : List ℕ) → IsTrue (p class.Other)
    → IsTrue (list_all (λ w. p w.1) ws) → IsTrue (p (class_in ws s))
class_in_of p [] s o h = o
class_in_of p (w ∷ ws) s o h =
    pick p (bytes_eq s w.0) w.1 (class_in ws s) (and_left (p w.1) (list_all (λ v. p v.1) ws) h)
    (class_in_of p ws s o (and_right (p w.1) (list_all (λ v. p v.1) ws) h))

storage_of : (c : Class) → IsTrue (of_keyword (storage c))
storage_of class.StorageOfMacro = refl
storage_of class.NameOfCall = refl
storage_of _ = refl

sizeof_bracket_of : (names : Names) (ts : List Token) → IsTrue (of_keyword (sizeof_bracket names ts))
sizeof_bracket_of names ts =
    pick of_keyword (begins_type names ts) (if closes_before_brace ts then class.SizeofExpr else class.SizeofType)
    (if is_name_before_brace ts then class.Other else class.SizeofExpr)
    (pick of_keyword (closes_before_brace ts) class.SizeofExpr class.SizeofType refl refl)
    (pick of_keyword (is_name_before_brace ts) class.Other class.SizeofExpr refl refl)

sizeof_of : (names : Names) (ts : List Token) → IsTrue (of_keyword (sizeof names ts))
sizeof_of names [] = refl
sizeof_of names (t ∷ ts) =
    pick of_keyword (is_sign t (codes "(")) (sizeof_bracket names ts) class.SizeofExpr (sizeof_bracket_of names ts) refl

alignof_of : (names : Names) (ts : List Token) → IsTrue (of_keyword (alignof names ts))
alignof_of names [] = refl
alignof_of names (t ∷ ts) =
    pick of_keyword (is_sign t (codes "(") && begins_type names ts) class.SizeofType class.Other refl refl

keyword_of : (names : Names) (ts : List Token) (next c : Class) → IsTrue (of_keyword c)
    → IsTrue (of_keyword (keyword_before names ts next c))
keyword_of names ts next class.Storage h = storage_of next
keyword_of names ts next class.Struct h = pick of_keyword (has_members ts) class.StructBody class.Struct refl refl
keyword_of names ts next class.Enum h = pick of_keyword (has_members ts) class.EnumBody class.Enum refl refl
keyword_of names ts next class.SizeofExpr h = sizeof_of names ts
keyword_of names ts next class.SizeofType h = alignof_of names ts
keyword_of names ts next _ h = h

bracket_of : (names : Names) (ts : List Token) → IsTrue (of_sign (bracket names ts))
bracket_of names ts =
    pick of_sign (begins_type names ts || begins_unknown_cast ts)
    (if closes_before_brace ts then nest_or (begins_nest names ts) class.LiteralNest class.LiteralList
    else nest_or (begins_nest names ts) class.CastNest class.CastList)
    (nest_or (begins_nest names ts) class.ParenNest class.ParenList)
    (pick of_sign (closes_before_brace ts) (nest_or (begins_nest names ts) class.LiteralNest class.LiteralList)
    (nest_or (begins_nest names ts) class.CastNest class.CastList)
    (pick of_sign (begins_nest names ts) class.LiteralNest class.LiteralList refl refl)
    (pick of_sign (begins_nest names ts) class.CastNest class.CastList refl refl))
    (pick of_sign (begins_nest names ts) class.ParenNest class.ParenList refl refl)

sign_of : (names : Names) (ts : List Token) (c : Class) → IsTrue (of_sign c) → IsTrue (of_sign (sign_before names ts c))
sign_of names ts class.ParenNest h = bracket_of names ts
sign_of names ts class.Question h = pick of_sign (at_sign ts (codes ":")) class.ShortQuestion class.Question refl refl
sign_of names ts _ h = h

pattern_of : (statements : Bool) (c : Class) → IsTrue (of_pattern c) → IsTrue (of_pattern (pattern_before statements c))
pattern_of statements class.PatOpen h = pick of_pattern statements class.PatOpenOfStatements class.PatOpen refl refl
pattern_of statements class.PatNestOfExpression h = pick of_pattern statements class.PatNestOfStatements class.PatNestOfExpression refl refl
pattern_of statements _ h = h

name_bracket_of : (s : List ℕ) (ts : List Token) → IsTrue (fits word.Name (name_of_bracket s ts))
name_bracket_of s ts =
    pick (fits word.Name) (iterates s ts)
    (if at_sign ts (codes "*") then class.NameOfStarIterator else class.NameOfIterator)
    (if at_sign ts (codes "*") then class.Name else class.NameOfCall)
    (pick (fits word.Name) (at_sign ts (codes "*")) class.NameOfStarIterator class.NameOfIterator refl refl)
    (pick (fits word.Name) (at_sign ts (codes "*")) class.Name class.NameOfCall refl refl)

name_of : (names : Names) (s : List ℕ) (ts : List Token) → IsTrue (fits word.Name (name names s ts))
name_of names s [] = refl
name_of names s (t ∷ ts) =
    pick (fits word.Name) (is_string t) class.NameOfString _ refl
    (pick (fits word.Name) (is_sign t (codes ":")) class.NameOfLabel _ refl
    (pick (fits word.Name) (is_sign t (codes "(")) (name_of_bracket s ts) _ (name_bracket_of s ts)
    (pick (fits word.Name) (declares names s (t ∷ ts)) class.NameOfDecl class.Name refl refl)))

meta_of : (names : Names) (k : MetaKind) (s : List ℕ) (ts : List Token) → IsTrue (of_meta k (metavariable names k s ts))
meta_of names meta.Expr s ts = refl
meta_of names meta.Constant s ts = refl
meta_of names meta.ExprList s ts = refl
meta_of names meta.Ident s ts = name_of names s ts
meta_of names meta.Typ s ts =
    pick of_type (at_sign ts (codes "*") || at_sign ts (codes "(") || at_sign ts (codes "["))
    class.TypOfDeclarator class.Typ refl refl
meta_of names meta.Params s ts = refl
meta_of names meta.Stmt s ts = refl

kind_gives : (names : Names) (k : TokenKind) (s : List ℕ) (ts : List Token) (next : Class)
    → IsTrue (gives k (class_of names k s ts next))
kind_gives names token.Name s ts next = name_of names s ts
kind_gives names token.Keyword s ts next =
    keyword_of names ts next (class_in keywords s) (class_in_of of_keyword keywords s refl refl)
kind_gives names token.Number s ts next = refl
kind_gives names token.Char s ts next = refl
kind_gives names token.Str s ts next =
    pick (fits word.Str) (at_string ts || at_name ts) class.StrOfString class.Str refl refl
kind_gives names token.Punct s ts next = sign_of names ts (class_in signs s) (class_in_of of_sign signs s refl refl)
kind_gives names token.Stray s ts next = refl
kind_gives names (token.Meta k) s ts next = meta_of names k s ts
kind_gives names token.Dots s ts next = refl
kind_gives names token.Pat s ts next =
    pattern_of (is_of_statements (has_semicolon 0 ts) next) (class_in pattern_signs s)
    (class_in_of of_pattern pattern_signs s refl refl)

-- ---- facts about kinds and classes

abbrev pub kind_test : (TokenKind → Class → Bool) → TokenKind → Class → Bool
kind_test p k c = implies (gives k c) (p k c)

-- What holds of each kind and each of its classes holds of the kind and the class of a token.
pub kind_tells : (p : TokenKind → Class → Bool) → ((k : TokenKind) → Passes (kind_test p k))
    → (names : Names) (k : TokenKind) (s : List ℕ) (ts : List Token) (next : Class)
    → IsTrue (p k (class_of names k s ts next))
kind_tells p test names k s ts next =
    modus (gives k (class_of names k s ts next)) (p k (class_of names k s ts next))
    (passes_at (kind_test p k) (test k) (class_of names k s ts next)) (kind_gives names k s ts next)

pub token_tells : (p : TokenKind → Class → Bool) → ((k : TokenKind) → Passes (kind_test p k))
    → (names : Names) (t : Token) (ts : List Token) → IsTrue (p t.kind (look names (t ∷ ts)))
unfolding look
token_tells p test names t ts = kind_tells p test names t.kind t.text ts (look names ts)
