-- The form of declarations that begin with the word for a kind: a kind, items separated by commas, and `;`.
use Rattle.std.specs.Prelude.{ℕ, ◌+◌, eqb, ◌||◌, ◌&&◌, not, Bool, true, false, if◌then◌else◌, List, [], ◌∷◌, drop, Option, Some, None, option_map, option_and_then, codes}
use Rattle.std.specs.Str.{bytes_eq}
use Rattle.c_terms.specs.declared.token.TokenKind.{TokenKind}
use Rattle.c_terms.specs.declared.token.TokenKind.TheVariants as token
use Rattle.c_terms.specs.declared.token.MetaKind.TheVariants as meta
use Rattle.smpl_patch.specs.declared.pattern.VarKind.{VarKind}
use Rattle.smpl_patch.specs.declared.pattern.VarKind.TheVariants.{Meta, Position}
use Rattle.smpl_patch.specs.declared.wanted.NameWanted.TheVariants as names
use Rattle.smpl_patch.specs.declared.wanted.TypeWanted.TheVariants as types
use Rattle.smpl_patch.specs.Wants.{anything}
use Rattle.smpl_lexer.specs.declared.token.PatchToken.{PatchToken}
use Rattle.smpl_lexer.specs.Tokens.{is_name, is_word, is_sign}
use Rattle.smpl_meta.specs.declared.item.DeclKind.{DeclKind}
use Rattle.smpl_meta.specs.declared.item.DeclKind.TheVariants.{Var, Symbol}
use Rattle.smpl_meta.specs.declared.item.Named.{Named}
use Rattle.smpl_meta.specs.declared.item.Item.{Item}

-- ---- tokens

abbrev pub is_keyword_kind : TokenKind → Bool
is_keyword_kind token.Keyword = true
is_keyword_kind _ = false

abbrev pub is_keyword : PatchToken → Bool
is_keyword t = is_keyword_kind t.token.kind

-- the keyword with this text
abbrev pub is_keyword_of : List ℕ → PatchToken → Bool
is_keyword_of text t = is_keyword t && bytes_eq t.token.text text

-- a token in the form of a name, even if it is a keyword
abbrev pub is_wordish : PatchToken → Bool
is_wordish t = is_name t || is_keyword t

-- ---- lists of tokens, split

-- a token is added at the front of the first of some parts
abbrev pub put : PatchToken → List (List PatchToken) → List (List PatchToken)
put t [] = (t ∷ []) ∷ []
put t (part ∷ parts) = (t ∷ part) ∷ parts

-- Each `;` ends a part. What is left at the end is a part too.
abbrev pub parts : List PatchToken → List (List PatchToken)
parts [] = []
parts (t ∷ ts) = if is_sign (codes ";") t then (t ∷ []) ∷ parts ts else put t (parts ts)

-- whether the next token is within braces
abbrev pub within_after : Bool → PatchToken → Bool
within_after within t = if is_sign (codes "{") t then true else (if is_sign (codes "}") t then false else within)

-- what is between the commas outside braces
abbrev pub chunks : Bool → List PatchToken → List (List PatchToken)
chunks within [] = [] ∷ []
chunks within (t ∷ ts) =
    if is_sign (codes ",") t && not within then [] ∷ chunks within ts
    else put t (chunks (within_after within t) ts)

-- the tokens before the last one, if the last one is this sign
abbrev pub before_sign : List ℕ → List PatchToken → Option (List PatchToken)
before_sign text [] = None
before_sign text (t ∷ []) = if is_sign text t then Some [] else None
before_sign text (t ∷ u ∷ ts) = option_map (λ front. t ∷ front) (before_sign text (u ∷ ts))

-- ---- names

-- `x`
abbrev pub plain_of : PatchToken → Option Named
plain_of x = if is_wordish x then Some (record { from = None; name = x }) else None

-- `r.x`
abbrev pub member_of : PatchToken → PatchToken → PatchToken → Option Named
member_of r dot x =
    if is_wordish r && is_sign (codes ".") dot && is_wordish x then Some (record { from = Some r; name = x }) else None

abbrev pub named_of : List PatchToken → Option Named
named_of (x ∷ []) = plain_of x
named_of (r ∷ dot ∷ x ∷ []) = member_of r dot x
named_of _ = None

-- ---- what an item must differ from

abbrev pub name_not : List PatchToken → Option Named
name_not (x ∷ []) = plain_of x
name_not _ = None

abbrev pub place_not : List PatchToken → Option Named
place_not (r ∷ dot ∷ x ∷ []) = member_of r dot x
place_not _ = None

-- a name for an identifier, a position of another rule for a position
abbrev pub not_of : VarKind → List PatchToken → Option Named
not_of (Meta meta.Ident) ts = name_not ts
not_of Position ts = place_not ts
not_of _ ts = None

-- what some parts spell, if each of them spells something
abbrev pub all_of : {A : Type 0} → (List PatchToken → Option A) → List (List PatchToken) → Option (List A)
all_of read [] = Some []
all_of read (c ∷ cs) = option_and_then (λ a. option_map (λ more. a ∷ more) (all_of read cs)) (read c)

abbrev pub one_not : VarKind → List PatchToken → Option (List Named)
one_not kind ts = option_map (λ n. n ∷ []) (not_of kind ts)

abbrev pub nots_between : VarKind → List PatchToken → Option (List Named)
nots_between kind ts = all_of (not_of kind) (chunks false ts)

abbrev pub braced : VarKind → List PatchToken → Option (List Named)
braced kind ts = option_and_then (nots_between kind) (before_sign (codes "}") ts)

-- one, or several in braces
abbrev pub nots_of : VarKind → List PatchToken → Option (List Named)
nots_of kind [] = None
nots_of kind (t ∷ ts) = if is_sign (codes "{") t then braced kind ts else one_not kind (t ∷ ts)

-- ---- items

abbrev pub excepted_of : DeclKind → List PatchToken → Named → Option Item
excepted_of Symbol ts x = None
excepted_of (Var kind) ts x =
    option_map (λ nots. record { kind = Var kind; named = x; nots = nots; wanted = anything }) (nots_of kind ts)

abbrev pub bare_item : DeclKind → Named → Item
bare_item kind x = record { kind = kind; named = x; nots = []; wanted = anything }

abbrev pub plain_item : DeclKind → List PatchToken → Option Item
plain_item kind (x ∷ differs ∷ ts) =
    if is_sign (codes "!=") differs then option_and_then (excepted_of kind ts) (plain_of x)
    else option_map (bare_item kind) (named_of (x ∷ differs ∷ ts))
plain_item kind ts = option_map (bare_item kind) (named_of ts)

-- the number of `*` in front
abbrev pub count_stars : List PatchToken → ℕ
count_stars [] = 0
count_stars (t ∷ ts) = if is_sign (codes "*") t then count_stars ts + 1 else 0

abbrev pub pointer_to : ℕ → Named → Item
pointer_to stars x = record { kind = Var (Meta meta.Expr); named = x; nots = []; wanted = record { name = names.Any; ty = types.Pointer stars } }

-- `x` after that many `*`
abbrev pub pointer_item : ℕ → List PatchToken → Option Item
pointer_item stars (x ∷ []) = option_map (pointer_to stars) (plain_of x)
pointer_item stars _ = None

-- an item of an `expression` declaration
abbrev pub expression_item : List PatchToken → Option Item
expression_item ts =
    let stars = count_stars ts in
    if eqb stars 0 then plain_item (Var (Meta meta.Expr)) ts else pointer_item stars (drop stars ts)

abbrev pub item_of : DeclKind → List PatchToken → Option Item
item_of (Var (Meta meta.Expr)) ts = expression_item ts
item_of kind ts = plain_item kind ts

-- ---- declarations

-- `list` belongs to the kind if a name follows
abbrev pub is_listed : List PatchToken → Bool
is_listed (l ∷ x ∷ ts) = is_word (codes "list") l && is_wordish x
is_listed _ = false

-- the kind that one word names
abbrev pub kind_of : PatchToken → Option DeclKind
kind_of t =
    if is_word (codes "expression") t then Some (Var (Meta meta.Expr))
    else (if is_word (codes "identifier") t then Some (Var (Meta meta.Ident))
    else (if is_word (codes "constant") t then Some (Var (Meta meta.Constant))
    else (if is_word (codes "type") t then Some (Var (Meta meta.Typ))
    else (if is_word (codes "statement") t then Some (Var (Meta meta.Stmt))
    else (if is_word (codes "position") t then Some (Var Position)
    else (if is_word (codes "symbol") t then Some Symbol else None))))))

-- the kind that a word and `list` name together
abbrev pub list_kind_of : PatchToken → Option DeclKind
list_kind_of t =
    if is_word (codes "expression") t then Some (Var (Meta meta.ExprList))
    else (if is_word (codes "parameter") t then Some (Var (Meta meta.Params)) else None)

abbrev pub items_in : DeclKind → List PatchToken → Option (List Item)
items_in kind ts = all_of (item_of kind) (chunks false ts)

abbrev pub items_by : Option DeclKind → List PatchToken → Option (List Item)
items_by None ts = None
items_by (Some kind) ts = items_in kind ts

abbrev pub is_some_kind : Option DeclKind → Bool
is_some_kind None = false
is_some_kind (Some kind) = true

-- the word begins the declarations of a kind
abbrev pub is_kind_word : PatchToken → Bool
is_kind_word t = is_some_kind (kind_of t) || is_some_kind (list_kind_of t)

-- the items of a declaration that begins with the word for a kind, without its `;`
abbrev pub kind_items : List PatchToken → Option (List Item)
kind_items [] = None
kind_items (t ∷ ts) = if is_listed ts then items_by (list_kind_of t) (drop 1 ts) else items_by (kind_of t) ts
