-- Typed declarations: specifiers, and declarators with a name, separated by commas (ISO/IEC 9899:2011, 6.7).
use Rattle.std.specs.Prelude.{ℕ, suc, ◌≡◌, ◌≤◌, ◌<◌, ◌+◌, ◌-◌, eqb, Bool, true, false, not, ◌&&◌, ◌||◌, Option, None, Some, Result, Ok, Err}
use Rattle.std.specs.Prelude.{List, [], ◌∷◌, ◌⊎◌, take, drop, slice_get, codes, option_map, option_and_then, if◌then◌else◌, MatchBool}
use Rattle.std.specs.List.{list_any, AllZip}
use Rattle.c_terms.specs.declared.token.Token.{Token}
use Rattle.c_terms.specs.declared.token.MetaKind.TheVariants as meta
use Rattle.c_terms.specs.declared.tree.Tree.{Tree}
use Rattle.c_terms.specs.Names.{listed_names}
use Rattle.c_types.specs.declared.ty.Ty.{Ty, out-Ty}
use Rattle.c_types.specs.declared.ty.Ty.TheOpen.{Ty-F}
use Rattle.c_typing.specs.Declarators.{declared, declared_token}
use Rattle.c_rows.specs.declared.kind.Kind.{Kind}
use Rattle.c_rows.specs.declared.kind.Kind.TheVariants as kinds
use Rattle.c_rows.specs.Trees.{IsTreeOf}
use Rattle.c_rows.specs.Limits.{most_open}
use Rattle.c_rows.specs.Depth.{opens_of}
use Rattle.c_expr.specs.declared.fault.ParseFault.{ParseFault}
use Rattle.smpl_patch.specs.declared.pattern.VarKind.TheVariants.{Meta}
use Rattle.smpl_patch.specs.declared.wanted.NameWanted.{NameWanted}
use Rattle.smpl_patch.specs.declared.wanted.TypeWanted.TheVariants as wants
use Rattle.smpl_lexer.specs.declared.token.PatchToken.{PatchToken}
use Rattle.smpl_lexer.specs.Tokens.{is_name, is_sign}
use Rattle.smpl_meta.specs.declared.item.DeclKind.TheVariants.{Var}
use Rattle.smpl_meta.specs.declared.item.Item.{Item}
use Rattle.smpl_meta.specs.declared.item.Named.{Named}
use Rattle.smpl_meta.specs.Forms.{is_keyword, is_keyword_of, is_wordish, plain_of, put, count_stars, expression_item, all_of}
use Rattle.smpl_meta.specs.TypeNames.{is_named_in}

-- ---- how far the specifiers reach

-- a tag follows the word
abbrev pub is_tag_word : PatchToken → Bool
is_tag_word t = is_keyword_of (codes "struct") t || (is_keyword_of (codes "union") t || is_keyword_of (codes "enum") t)

-- the word qualifies a type that another word names
abbrev pub is_qualifier : PatchToken → Bool
is_qualifier t = is_keyword_of (codes "const") t || (is_keyword_of (codes "volatile") t || is_keyword_of (codes "restrict") t)

-- the next token of specifiers: a word, a tag after its word, or a name if no other word names a type
abbrev pub can_follow : (named tag : Bool) → PatchToken → Bool
can_follow named tag t = is_keyword t || (is_name t && (tag || not named))

-- after the token a word names a type
abbrev pub named_after : Bool → PatchToken → Bool
named_after named t = named || not (is_qualifier t)

abbrev pub specs_from : (named tag : Bool) → List PatchToken → ℕ
specs_from named tag [] = 0
specs_from named tag (t ∷ ts) = if can_follow named tag t then suc (specs_from (named_after named t) (is_tag_word t) ts) else 0

-- the number of tokens in front that can be specifiers: words, a tag after its word, and a name if no other word names a type
abbrev pub specs_length : List PatchToken → ℕ
specs_length ts = specs_from false false ts

-- ---- what is read as C

-- the tokens as those of a file, numbered from here
abbrev pub tokens_of : ℕ → List PatchToken → List Token
tokens_of at [] = []
tokens_of at (t ∷ ts) = record { kind = t.token.kind; text = t.token.text; id = at } ∷ tokens_of (suc at) ts

-- the one tree of this kind that spells the tokens, or none if there is none or more than 200 brackets are open at once
abbrev pub IsRead : Kind → List Token → Option Tree → Type 0
IsRead kind ts (Some t) = IsTreeOf kind listed_names ts t × (opens_of ts ≤ most_open)
IsRead kind ts None = (t : Tree) → IsTreeOf kind listed_names ts t → most_open < opens_of ts

abbrev pub tree_read : Result Tree ParseFault → Option Tree
tree_read (Ok t) = Some t
tree_read (Err fault) = None

-- a tree in which specifiers name one of these types is none
abbrev pub unless_named : List (List ℕ) → Tree → Option Tree
unless_named types t = if is_named_in types t then None else Some t

-- the tree of this kind that the tokens spell, if specifiers in it name none of these types
abbrev pub IsPlain : List (List ℕ) → Kind → List PatchToken → Option Tree → Type 0
IsPlain types kind ts found =
    (tree : Option Tree) × (IsRead kind (tokens_of 0 ts) tree × (found ≡ option_and_then (unless_named types) tree))

-- ---- specifiers

-- a storage word, or one of functions
abbrev pub is_refused : PatchToken → Bool
is_refused t =
    is_keyword_of (codes "typedef") t || (is_keyword_of (codes "extern") t || (is_keyword_of (codes "static") t || (is_keyword_of (codes "auto") t
    || (is_keyword_of (codes "register") t || (is_keyword_of (codes "_Thread_local") t || (is_keyword_of (codes "inline") t
    || is_keyword_of (codes "_Noreturn") t))))))

abbrev pub IsSpecs : List (List ℕ) → List PatchToken → Option Tree → Type 0
IsSpecs types ts specs = IsPlain types kinds.Specs ts specs

-- the specifiers that the tokens spell, if they can be those of a typed declaration
abbrev pub AreSpecs : List (List ℕ) → List PatchToken → Option Tree → Type 0
AreSpecs types ts specs = MatchBool (list_any is_refused ts) (specs ≡ None) (IsSpecs types ts specs)

-- ---- declarators

abbrev pub depth_after : ℕ → PatchToken → ℕ
depth_after depth t =
    if is_sign (codes "(") t || (is_sign (codes "[") t || is_sign (codes "{") t) then depth + 1
    else (if is_sign (codes ")") t || (is_sign (codes "]") t || is_sign (codes "}") t) then depth - 1 else depth)

-- the number of tokens before the first comma outside brackets
abbrev pub declarator_length : ℕ → List PatchToken → ℕ
declarator_length depth [] = 0
declarator_length depth (t ∷ ts) =
    if eqb depth 0 && is_sign (codes ",") t then 0 else suc (declarator_length (depth_after depth t) ts)

-- what is between the commas outside brackets
abbrev pub declarators : ℕ → List PatchToken → List (List PatchToken)
declarators depth [] = [] ∷ []
declarators depth (t ∷ ts) =
    if eqb depth 0 && is_sign (codes ",") t then [] ∷ declarators depth ts
    else put t (declarators (depth_after depth t) ts)

abbrev pub is_function_in : Ty-F Ty → Bool
is_function_in (Ty-F.Fun of) = true
is_function_in _ = false

abbrev pub is_function : Ty → Bool
is_function ty = is_function_in (out-Ty ty)

abbrev pub unless_function : Ty → Option Ty
unless_function ty = if is_function ty then None else Some ty

-- the type that a declarator gives its name, if an expression can have it: a function isn't one
abbrev pub type_of : Tree → Tree → Option Ty
type_of specs d = option_and_then unless_function (declared specs (Some d))

abbrev pub item_of_type : NameWanted → Ty → Named → Item
item_of_type name ty x = record {
  kind = Var (Meta meta.Expr);
  named = x;
  nots = [];
  wanted = record { name = name; ty = wants.Is ty };
}

abbrev pub typed_item : NameWanted → Option PatchToken → Ty → Option Item
typed_item name t ty = option_map (item_of_type name ty) (option_and_then plain_of t)

-- the item of a declarator: its name, with the type that it gives the name
abbrev pub declarator_item : NameWanted → Tree → List PatchToken → Tree → Option Item
declarator_item name specs ts d =
    option_and_then (λ (a : Token). option_and_then (typed_item name (slice_get ts a.id)) (type_of specs d)) (declared_token d)

abbrev pub item_by : List (List ℕ) → NameWanted → Tree → List PatchToken → Option Tree → Option Item
item_by types name specs ts tree =
    option_and_then (declarator_item name specs ts) (option_and_then (unless_named types) tree)

-- the item that the tokens spell as a declarator after these specifiers
abbrev pub IsDeclarator : List (List ℕ) → NameWanted → Tree → List PatchToken → Option Item → Type 0
IsDeclarator types name specs ts item =
    (tree : Option Tree) × (IsRead kinds.Declarator (tokens_of 0 ts) tree × (item ≡ item_by types name specs ts tree))

abbrev pub IsDeclaratorOf : List (List ℕ) → NameWanted → Tree → List PatchToken → Item → Type 0
IsDeclaratorOf types name specs ts item = IsDeclarator types name specs ts (Some item)

-- one of these spells none
abbrev pub SomeLacks : (List PatchToken → Option Item → Type 0) → List (List PatchToken) → Type 0
SomeLacks Spells [] = ⊥
SomeLacks Spells (d ∷ ds) = Spells d None ⊎ SomeLacks Spells ds

-- one of these is no declarator of an item
abbrev pub OneLacks : List (List ℕ) → NameWanted → Tree → List (List PatchToken) → Type 0
OneLacks types name specs ds = SomeLacks (IsDeclarator types name specs) ds

-- the items that the tokens spell as declarators, or none if some of what is between the commas spells none
abbrev pub AreDeclarators : List (List ℕ) → NameWanted → Tree → List PatchToken → Option (List Item) → Type 0
AreDeclarators types name specs ts (Some items) = AllZip (IsDeclaratorOf types name specs) (declarators 0 ts) items
AreDeclarators types name specs ts None = OneLacks types name specs (declarators 0 ts)

-- ---- declarations

abbrev pub AreTyped : List (List ℕ) → NameWanted → Option Tree → List PatchToken → Option (List Item) → Type 0
AreTyped types _ None ts items = items ≡ None
AreTyped types name (Some specs) ts items = AreDeclarators types name specs ts items

-- the items of a typed declaration without its `;`, given the rule's `type` metavariables so far
abbrev pub IsTyped : List (List ℕ) → NameWanted → List PatchToken → Option (List Item) → Type 0
IsTyped types name ts items =
    let n = specs_length ts in
    (specs : Option Tree) × (AreSpecs types (take n ts) specs × AreTyped types name specs (drop n ts) items)

-- ---- names, with or without a type

abbrev pub is_name_alone : List PatchToken → Bool
is_name_alone (x ∷ []) = is_wordish x
is_name_alone (r ∷ dot ∷ x ∷ []) = is_sign (codes ".") dot
is_name_alone _ = false

-- any number of `*`, then a name or `r.x`
abbrev pub is_untyped : List PatchToken → Bool
is_untyped ts = is_name_alone (drop (count_stars ts) ts)

abbrev pub with_name : NameWanted → Item → Item
with_name name i = record i { wanted = record i.wanted { name = name } }

abbrev pub untyped_item : NameWanted → List PatchToken → Option Item
untyped_item name ts = option_map (with_name name) (expression_item ts)

abbrev pub untyped_items : NameWanted → List PatchToken → Option (List Item)
untyped_items name ts = all_of (untyped_item name) (declarators 0 ts)

-- the items of a declaration of names, which follow `idexpression`
abbrev pub AreNames : List (List ℕ) → NameWanted → List PatchToken → Option (List Item) → Type 0
AreNames types name ts items =
    MatchBool (is_untyped (take (declarator_length 0 ts) ts)) (items ≡ untyped_items name ts) (IsTyped types name ts items)
