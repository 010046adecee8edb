-- The type that the specifiers of a declaration name (6.7.2).
use Rattle.std.specs.Prelude.{ℕ, Bool, true, false, ◌&&◌, ◌||◌, not, List, [], ◌∷◌, map, filter, Option, None, Some, slice_get, codes, if◌then◌else◌}
use Rattle.std.specs.Option.{option_and_then, option_map_or}
use Rattle.std.specs.List.{list_any}
use Rattle.c_terms.specs.declared.label.Label.{Label}
use Rattle.c_terms.specs.declared.label.Label.TheVariants as label
use Rattle.c_terms.specs.declared.token.TokenKind.{TokenKind}
use Rattle.c_terms.specs.declared.token.TokenKind.TheVariants as kind
use Rattle.c_terms.specs.declared.tree.Tree.{Tree, out-Tree}
use Rattle.c_terms.specs.declared.tree.Tree.TheOpen.{Tree-F}
use Rattle.c_terms.specs.Same.{same_bytes}
use Rattle.c_terms.specs.Trees.{join}
use Rattle.c_types.specs.Tables.{is_name_kind}
use Rattle.c_types.specs.declared.ty.Ty.{Ty}
use Rattle.c_types.specs.declared.ty.Ty.TheVariants.{Basic, Named, Tag, Enumer}

abbrev pub kids_in : Tree-F Tree → List Tree
kids_in (Tree-F.Leaf token) = []
kids_in (Tree-F.Branch l cs) = cs

-- the children of a branch
abbrev pub kids : Tree → List Tree
kids t = kids_in (out-Tree t)

abbrev pub is_keyword_kind : TokenKind → Bool
is_keyword_kind kind.Keyword = true
is_keyword_kind _ = false

abbrev pub token_text_in : Tree-F Tree → List ℕ
token_text_in (Tree-F.Leaf token) = token.text
token_text_in (Tree-F.Branch l cs) = []

-- the text of a token
abbrev pub token_text : Tree → List ℕ
token_text t = token_text_in (out-Tree t)

-- the text of child i, if that is a token
abbrev pub text_at : List Tree → ℕ → List ℕ
text_at cs i = option_map_or token_text (slice_get cs i) []

abbrev pub is_word_in : List ℕ → Tree-F Tree → Bool
is_word_in word (Tree-F.Leaf token) = same_bytes word token.text
is_word_in word (Tree-F.Branch l cs) = false

-- a token with this text
abbrev pub is_word : List ℕ → Tree → Bool
is_word word t = is_word_in word (out-Tree t)

abbrev pub is_word_at : List ℕ → List Tree → ℕ → Bool
is_word_at word cs i = option_map_or (is_word word) (slice_get cs i) false

abbrev pub name_in : Tree-F Tree → Option (List ℕ)
name_in (Tree-F.Leaf token) = if is_name_kind token.kind then Some token.text else None
name_in (Tree-F.Branch l cs) = None

-- the text of a name
abbrev pub name : Tree → Option (List ℕ)
name t = name_in (out-Tree t)

abbrev pub name_at : List Tree → ℕ → Option (List ℕ)
name_at cs i = option_and_then name (slice_get cs i)

abbrev pub is_keyword_in : List ℕ → Tree-F Tree → Bool
is_keyword_in word (Tree-F.Leaf token) = is_keyword_kind token.kind && same_bytes word token.text
is_keyword_in word (Tree-F.Branch l cs) = false

-- a keyword with this text
abbrev pub is_keyword : List ℕ → Tree → Bool
is_keyword word t = is_keyword_in word (out-Tree t)

-- the words that name basic types, in the order of their bytes
abbrev pub basic_words : List (List ℕ)
basic_words =
    codes "_Bool" ∷ codes "_Complex" ∷ codes "char" ∷ codes "double" ∷ codes "float" ∷ codes "int" ∷ codes "long" ∷
    codes "short" ∷ codes "signed" ∷ codes "unsigned" ∷ codes "void" ∷ []

-- the word as often as it is among the specifiers
abbrev pub times : List ℕ → List Tree → List (List ℕ)
times word cs = map (λ c. word) (filter (is_keyword word) cs)

-- the words among the specifiers that name basic types, in the order of their bytes, repeats included
abbrev pub words_of : List Tree → List (List ℕ)
words_of cs = join (map (λ word. times word cs) basic_words)

abbrev pub is_size : List ℕ → Bool
is_size word = same_bytes word (codes "short") || (same_bytes word (codes "long") || same_bytes word (codes "unsigned"))

abbrev pub is_plain : List ℕ → Bool
is_plain word = same_bytes word (codes "int") || same_bytes word (codes "signed")

abbrev pub without_plain : List (List ℕ) → List (List ℕ)
without_plain words = filter (λ word. not (is_plain word)) words

-- `signed` or `int signed`
abbrev pub is_all_plain : List (List ℕ) → Bool
is_all_plain [] = false
is_all_plain (word ∷ []) = same_bytes word (codes "signed")
is_all_plain (first ∷ second ∷ []) = same_bytes first (codes "int") && same_bytes second (codes "signed")
is_all_plain (first ∷ second ∷ third ∷ more) = false

abbrev pub one_word : List ℕ → List (List ℕ)
one_word word = word ∷ []

-- the same type in fewer words: `int` and `signed` say nothing beside a size, and `signed` by itself is `int`
abbrev pub shortest : List (List ℕ) → List (List ℕ)
shortest words = if list_any is_size words then without_plain words else if is_all_plain words then one_word (codes "int") else words

abbrev pub tag_type : Label → List Tree → List ℕ → Option Ty
tag_type label.StructUse cs tag = Some (Tag (is_word_at (codes "union") cs 0) tag)
tag_type label.StructDef cs tag = Some (Tag (is_word_at (codes "union") cs 0) tag)
tag_type label.EnumUse cs tag = Some (Enumer tag)
tag_type label.EnumDef cs tag = Some (Enumer tag)
tag_type _ cs tag = None

-- `struct s`, `union s`, `enum e`, with or without what they consist of
abbrev pub tagged : Label → List Tree → Option Ty
tagged l cs = option_and_then (tag_type l cs) (name_at cs 1)

abbrev pub named_in : Tree-F Tree → Option Ty
named_in (Tree-F.Leaf token) = if is_name_kind token.kind then Some (Named token.text) else None
named_in (Tree-F.Branch l cs) = tagged l cs

-- what one of the specifiers names, unless it is a word
abbrev pub named : Tree → Option Ty
named t = named_in (out-Tree t)

abbrev pub first_some : {A : Type 0} → List (Option A) → Option A
first_some [] = None
first_some (None ∷ os) = first_some os
first_some (Some a ∷ os) = Some a

abbrev pub first_named : List Tree → Option Ty
first_named cs = first_some (map named cs)

abbrev pub type_by : List (List ℕ) → List Tree → Option Ty
type_by [] cs = first_named cs
type_by (word ∷ words) cs = Some (Basic (word ∷ words))

-- the basic type of the words that name one, or else what a specifier names
abbrev pub base_type : Tree → Option Ty
base_type specs = type_by (shortest (words_of (kids specs))) (kids specs)

abbrev pub is_typedef : Tree → Bool
is_typedef specs = list_any (is_keyword (codes "typedef")) (kids specs)
