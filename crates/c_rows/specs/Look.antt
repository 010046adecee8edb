-- The class of the front of a list of tokens: which names are types, and what a bracket begins.
use Rattle.std.specs.Prelude.{ℕ, zero, suc, ◌+◌, ◌-◌, ◌==◌, Bool, true, false, not, ◌&&◌, ◌||◌, if◌then◌else◌, List, [], ◌∷◌, codes}
use Rattle.c_terms.specs.Names.{has_name}
use Rattle.c_terms.specs.declared.token.Token.{Token}
use Rattle.c_terms.specs.declared.token.TokenKind.{TokenKind}
use Rattle.c_terms.specs.declared.token.TokenKind.TheVariants as token
use Rattle.c_terms.specs.declared.token.MetaKind.{MetaKind}
use Rattle.c_terms.specs.declared.token.MetaKind.TheVariants as meta
use Rattle.c_rows.specs.declared.class.Class.{Class}
use Rattle.c_rows.specs.declared.class.Class.TheVariants as class
use Rattle.c_rows.specs.declared.branches.Group.{Group}
use Rattle.c_rows.specs.declared.branches.Group.TheVariants as groups
use Rattle.c_rows.specs.Texts.{keywords, signs, pattern_signs, class_in}
use Rattle.c_rows.specs.Words.{begins_by_keyword}
use Rattle.c_rows.specs.Tokens.{is_named, is_string, is_word, holds_for_each, is_sign, is_pat, is_type_word, follows_cast}

-- names that stand for types
abbrev pub Names : Type 0
Names = List (List ℕ)

abbrev pub is_known : Names → Token → Bool
is_known names t = is_named t && has_name names t.text

-- ---- the first token

abbrev pub at_sign : List Token → List ℕ → Bool
at_sign [] s = false
at_sign (t ∷ ts) s = is_sign t s

abbrev pub at_name : List Token → Bool
at_name [] = false
at_name (t ∷ ts) = is_named t

abbrev pub at_string : List Token → Bool
at_string [] = false
at_string (t ∷ ts) = is_string t

-- ---- a `(` where an operand may begin, or after `sizeof` or `_Alignof`

-- any number of `*`, and `)`
abbrev pub stars_close : List Token → Bool
stars_close [] = false
stars_close (t ∷ ts) = is_sign t (codes ")") || is_sign t (codes "*") && stars_close ts

-- The `(` begins a type if the next token is a type word; or a name in the names; or a name that is followed by one or
-- more `*` and `)`.
abbrev pub begins_type : Names → List Token → Bool
begins_type names [] = false
begins_type names (t ∷ ts) = is_type_word t || is_known names t || is_named t && at_sign ts (codes "*") && stars_close ts

-- except after `sizeof` and `_Alignof`, it also begins a type if what follows a cast comes after a name and `)`
abbrev pub begins_unknown_cast : List Token → Bool
begins_unknown_cast (t ∷ u ∷ v ∷ ts) = is_named t && is_sign u (codes ")") && follows_cast v
begins_unknown_cast _ = false

-- ---- a `(` before anything of the inner declarator has been read

-- The `(` begins a declarator in brackets if the next token is `*`, `(`, or a name that is not in the names. Otherwise
-- it begins the parameters of a function without a name.
abbrev pub begins_nest : Names → List Token → Bool
begins_nest names [] = false
begins_nest names (t ∷ ts) = is_sign t (codes "*") || is_sign t (codes "(") || is_named t && not (has_name names t.text)

-- ---- whole brackets

abbrev pub is_opening : Token → Bool
is_opening t = is_sign t (codes "(") || is_sign t (codes "[") || is_sign t (codes "{")

abbrev pub is_closing : Token → Bool
is_closing t = is_sign t (codes ")") || is_sign t (codes "]") || is_sign t (codes "}")

-- The tokens after the bracket that closes an opening one, given the tokens after that, with `more` further brackets
-- open.
abbrev pub behind_group : ℕ → List Token → List Token
behind_group more [] = []
behind_group more (t ∷ ts) =
    if is_opening t then behind_group (more + 1) ts
    else (if is_closing t then (if more == 0 then ts else behind_group (more - 1) ts)
    else behind_group more ts)

-- Given the tokens after an opening bracket: whether `{` directly follows the bracket that closes it.
abbrev pub closes_before_brace : List Token → Bool
closes_before_brace ts = at_sign (behind_group 0 ts) (codes "{")

-- ---- the classes

abbrev pub nest_or : Bool → Class → Class → Class
nest_or nest a b = if nest then a else b

abbrev pub bracket : Names → List Token → Class
bracket names ts =
    if begins_type names ts || begins_unknown_cast ts
    then (if closes_before_brace ts
    then nest_or (begins_nest names ts) class.LiteralNest class.LiteralList
    else nest_or (begins_nest names ts) class.CastNest class.CastList)
    else nest_or (begins_nest names ts) class.ParenNest class.ParenList

-- a name and `)` before `{`
abbrev pub is_name_before_brace : List Token → Bool
is_name_before_brace (t ∷ u ∷ v ∷ ts) = is_named t && is_sign u (codes ")") && is_sign v (codes "{")
is_name_before_brace _ = false

-- `sizeof` is before a type in brackets, or before an expression, which may be a literal. A name in brackets that is
-- not known as a type is not the type of a literal here.
abbrev pub sizeof_bracket : Names → List Token → Class
sizeof_bracket names ts =
    if begins_type names ts
    then (if closes_before_brace ts then class.SizeofExpr else class.SizeofType)
    else (if is_name_before_brace ts then class.Other else class.SizeofExpr)

abbrev pub sizeof : Names → List Token → Class
sizeof names [] = class.SizeofExpr
sizeof names (t ∷ ts) = if is_sign t (codes "(") then sizeof_bracket names ts else class.SizeofExpr

-- `_Alignof` is before a type in brackets
abbrev pub alignof : Names → List Token → Class
alignof names [] = class.Other
alignof names (t ∷ ts) = if is_sign t (codes "(") && begins_type names ts then class.SizeofType else class.Other

-- `{`, or a name and `{`
abbrev pub has_members : List Token → Bool
has_members [] = false
has_members (t ∷ ts) = is_sign t (codes "{") || is_named t && at_sign ts (codes "{")

-- A storage word before any others, a name, and a `(` that no `*` follows begins a macro's item.
abbrev pub storage : Class → Class
storage class.StorageOfMacro = class.StorageOfMacro
storage class.NameOfCall = class.StorageOfMacro
storage class.NameOfIterator = class.StorageOfMacro
storage _ = class.Storage

-- the class of a keyword, given the tokens after it
abbrev pub keyword_before : Names → List Token → Class → Class → Class
keyword_before names ts next class.Storage = storage next
keyword_before names ts next class.Struct = if has_members ts then class.StructBody else class.Struct
keyword_before names ts next class.Enum = if has_members ts then class.EnumBody else class.Enum
keyword_before names ts next class.SizeofExpr = sizeof names ts
keyword_before names ts next class.SizeofType = alignof names ts
keyword_before names ts next c = c

abbrev pub keyword : Names → List ℕ → List Token → Class → Class
keyword names s ts next = keyword_before names ts next (class_in keywords s)

-- ---- a name

-- one of `;`, `,`, `=` and `[`
abbrev pub at_end_of_name : List Token → Bool
at_end_of_name ts = at_sign ts (codes ";") || at_sign ts (codes ",") || at_sign ts (codes "=") || at_sign ts (codes "[")

-- any number of `*`, a name, and one of `;`, `,`, `=` and `[`
abbrev pub stars_name : List Token → Bool
stars_name [] = false
stars_name (t ∷ ts) = if is_sign t (codes "*") then stars_name ts else is_named t && at_end_of_name ts

-- At the start of a statement, and after the `(` of a `for`, a name with this text begins a declaration if it is in the
-- names and a name or `*` follows; and if any number of `*`, a name, and one of `;`, `,`, `=` and `[` follow.
abbrev pub declares : Names → List ℕ → List Token → Bool
declares names s ts = (at_name ts || at_sign ts (codes "*")) && has_name names s || stars_name ts

abbrev pub at_word : List Token → Bool
at_word [] = false
at_word (t ∷ ts) = is_word t

-- At the start of a statement, a name with this text and a `(` begin an iterator if `{` follows the bracket that closes
-- it; and if the text contains `for_each` and a name, a keyword or a metavariable follows that bracket.
abbrev pub iterates : List ℕ → List Token → Bool
iterates s inside = at_sign (behind_group 0 inside) (codes "{") || holds_for_each s && at_word (behind_group 0 inside)

-- the class of a name before `(`
abbrev pub name_of_bracket : List ℕ → List Token → Class
name_of_bracket s inside =
    if iterates s inside
    then (if at_sign inside (codes "*") then class.NameOfStarIterator else class.NameOfIterator)
    else (if at_sign inside (codes "*") then class.Name else class.NameOfCall)

abbrev pub name_behind : Names → List ℕ → Token → List Token → Class
name_behind names s t ts =
    if is_string t then class.NameOfString
    else (if is_sign t (codes ":") then class.NameOfLabel
    else (if is_sign t (codes "(") then name_of_bracket s ts
    else (if declares names s (t ∷ ts) then class.NameOfDecl
    else class.Name)))

abbrev pub name : Names → List ℕ → List Token → Class
name names s [] = class.Name
name names s (t ∷ ts) = name_behind names s t ts

abbrev pub string : List Token → Class
string ts = if at_string ts || at_name ts then class.StrOfString else class.Str

abbrev pub typ : List Token → Class
typ ts = if at_sign ts (codes "*") || at_sign ts (codes "(") || at_sign ts (codes "[") then class.TypOfDeclarator else class.Typ

abbrev pub question : List Token → Class
question ts = if at_sign ts (codes ":") then class.ShortQuestion else class.Question

-- the class of a punctuator, given the tokens after it
abbrev pub sign_before : Names → List Token → Class → Class
sign_before names ts class.ParenNest = bracket names ts
sign_before names ts class.Question = question ts
sign_before names ts c = c

abbrev pub sign : Names → List ℕ → List Token → Class
sign names s ts = sign_before names ts (class_in signs s)

abbrev pub metavariable : Names → MetaKind → List ℕ → List Token → Class
metavariable names meta.Expr s ts = class.Operand
metavariable names meta.Constant s ts = class.Operand
metavariable names meta.ExprList s ts = class.ExprList
metavariable names meta.Ident s ts = name names s ts
metavariable names meta.Typ s ts = typ ts
metavariable names meta.Params s ts = class.ParamList
metavariable names meta.Stmt s ts = class.Stmt

-- ---- signs of patterns

abbrev pub opens_group : Token → Bool
opens_group t = is_opening t || is_pat t (codes "\\(") || is_pat t (codes "<...") || is_pat t (codes "<+...")

abbrev pub closes_group : Token → Bool
closes_group t = is_closing t || is_pat t (codes "\\)") || is_pat t (codes "...>") || is_pat t (codes "...+>")

abbrev pub parts_branches : Token → Bool
parts_branches t = is_pat t (codes "\\|") || is_pat t (codes "\\&")

abbrev pub group : Token → Group
group t =
    if opens_group t then groups.Opening
    else (if closes_group t then groups.Closing
    else (if parts_branches t then groups.Parting
    else (if is_sign t (codes ";") then groups.Semicolon
    else groups.Plain)))

-- `behind` gives the result for the tokens after this one, inside the given number of groups.
abbrev pub semicolon_from : Group → ℕ → (ℕ → Bool) → Bool
semicolon_from groups.Opening d behind = behind (suc d)
semicolon_from groups.Closing zero behind = false
semicolon_from groups.Closing (suc d) behind = behind d
semicolon_from groups.Parting zero behind = false
semicolon_from groups.Parting (suc d) behind = behind (suc d)
semicolon_from groups.Semicolon zero behind = true
semicolon_from groups.Semicolon (suc d) behind = behind (suc d)
semicolon_from groups.Plain d behind = behind d

-- Whether the first branch has a `;` outside groups, when the scan starts inside d groups of that branch.
unfoldable pub has_semicolon : ℕ → List Token → Bool
has_semicolon d [] = false
has_semicolon d (t ∷ ts) = semicolon_from (group t) d (λ e. has_semicolon e ts)

-- Whether this class begins statements and no expression, or ends an empty branch or nest.
abbrev pub begins_statements : Class → Bool
begins_statements class.LeftBrace = true
begins_statements class.NameOfLabel = true
begins_statements class.NameOfIterator = true
begins_statements class.NameOfStarIterator = true
begins_statements class.Dots = true
begins_statements class.Stmt = true
begins_statements class.PatOpenOfStatements = true
begins_statements class.PatNestOfExpression = true
begins_statements class.PatNestOfStatements = true
begins_statements class.PatBar = true
begins_statements class.PatAmp = true
begins_statements class.PatClose = true
begins_statements class.PatNestClose = true
begins_statements c = begins_by_keyword c

-- Whether the first branch of a PatOr or PatAnd, or the content of a PatNest, is a list of statements: it is empty, or
-- begins as no expression does, or has a `;`.
abbrev pub is_of_statements : Bool → Class → Bool
is_of_statements semicolon next = begins_statements next || semicolon

-- what follows a sign of patterns: statements or an expression
abbrev pub pattern_before : Bool → Class → Class
pattern_before statements class.PatOpen = if statements then class.PatOpenOfStatements else class.PatOpen
pattern_before statements class.PatNestOfExpression = if statements then class.PatNestOfStatements else class.PatNestOfExpression
pattern_before statements c = c

abbrev pub pattern : List ℕ → Bool → Class → Class
pattern s semicolon next = pattern_before (is_of_statements semicolon next) (class_in pattern_signs s)

abbrev pub class_of : Names → TokenKind → List ℕ → List Token → Class → Class
class_of names token.Name s ts next = name names s ts
class_of names token.Keyword s ts next = keyword names s ts next
class_of names token.Number s ts next = class.Operand
class_of names token.Char s ts next = class.Operand
class_of names token.Str s ts next = string ts
class_of names token.Punct s ts next = sign names s ts
class_of names token.Stray s ts next = class.Other
class_of names (token.Meta k) s ts next = metavariable names k s ts
class_of names token.Dots s ts next = class.Dots
class_of names token.Pat s ts next = pattern s (has_semicolon 0 ts) next

-- the class of the front of the tokens
unfoldable pub look : Names → List Token → Class
look names [] = class.End
look names (t ∷ ts) = class_of names t.kind t.text ts (look names ts)

-- the same at each of the tokens
unfoldable pub classes_of : Names → List Token → List Class
classes_of names [] = []
classes_of names (t ∷ ts) = look names (t ∷ ts) ∷ classes_of names ts
