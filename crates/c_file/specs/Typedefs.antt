-- The names that an item declares as types: the names at the cores of its declarators, if its first part is a Specs with
-- the word `typedef` (C11 6.7.8).
use Rattle.std.specs.Prelude.{ℕ, ◌-◌, Bool, false, List, [], ◌∷◌, length, Option, None, Some, slice_get, option_and_then, if◌then◌else◌, codes}
use Rattle.std.specs.List.{list_any}
use Rattle.std.specs.Option.{option_flatten}
use Rattle.std.specs.Str.{bytes_eq}
use Rattle.c_terms.specs.declared.label.Label.{Label}
use Rattle.c_terms.specs.declared.label.Label.TheVariants as label
use Rattle.c_terms.specs.declared.token.Token.{Token}
use Rattle.c_terms.specs.declared.token.TokenKind.{TokenKind}
use Rattle.c_terms.specs.declared.token.TokenKind.TheVariants as kind
use Rattle.c_terms.specs.declared.tree.Tree.{Tree, out-Tree}
use Rattle.c_terms.specs.declared.tree.Tree.TheOpen.{Tree-F}
use Rattle.c_terms.specs.declared.tree.Tree.TheFolds.{fold-Tree}
use Rattle.c_terms.specs.Names.{with_name}

abbrev pub named : TokenKind → List ℕ → Option (List ℕ)
named kind.Name text = Some text
named _ text = None

-- the name that a token is
abbrev pub name_of : Token → Option (List ℕ)
name_of token = named token.kind token.text

-- which child of a declarator with n children has the name: the last of `* const d`, the second of `(d)`, the first of
-- `d[3]`, `d(int x)` and `d = 1`
abbrev pub core_place : Label → ℕ → Option ℕ
core_place label.Pointer n = Some (n - 1)
core_place label.DParen n = Some 1
core_place label.DArray n = Some 0
core_place label.DFun n = Some 0
core_place label.InitDecl n = Some 0
core_place _ n = None

abbrev pub core_step : Tree-F (Option (List ℕ)) → Option (List ℕ)
core_step (Tree-F.Leaf token) = name_of token
core_step (Tree-F.Branch l cores) = option_and_then (λ i. option_flatten (slice_get cores i)) (core_place l (length cores))

-- the name that a declarator declares
abbrev pub core : Tree → Option (List ℕ)
core = fold-Tree (Option (List ℕ)) core_step

abbrev pub typedef_at : Tree-F Tree → Bool
typedef_at (Tree-F.Leaf token) = bytes_eq token.text (codes "typedef")
typedef_at (Tree-F.Branch l cs) = false

-- the word `typedef`
abbrev pub is_typedef : Tree → Bool
is_typedef t = typedef_at (out-Tree t)

abbrev pub has_typedef_of : Label → List Tree → Bool
has_typedef_of label.Specs cs = list_any is_typedef cs
has_typedef_of _ cs = false

abbrev pub has_typedef_at : Tree-F Tree → Bool
has_typedef_at (Tree-F.Leaf token) = false
has_typedef_at (Tree-F.Branch l cs) = has_typedef_of l cs

-- a Specs with that word
abbrev pub has_typedef : Tree → Bool
has_typedef t = has_typedef_at (out-Tree t)

abbrev pub with_some : List (List ℕ) → Option (List ℕ) → List (List ℕ)
with_some names None = names
with_some names (Some name) = with_name names name

abbrev pub with_core : List (List ℕ) → Tree → List (List ℕ)
with_core names t = with_some names (core t)

-- the names together with those that these declarators declare
abbrev pub with_cores : List (List ℕ) → List Tree → List (List ℕ)
with_cores names [] = names
with_cores names (t ∷ ts) = with_cores (with_core names t) ts

abbrev pub with_declared_by : List (List ℕ) → List Tree → List (List ℕ)
with_declared_by names [] = names
with_declared_by names (specs ∷ declarators) = if has_typedef specs then with_cores names declarators else names

abbrev pub with_declared_at : List (List ℕ) → Tree-F Tree → List (List ℕ)
with_declared_at names (Tree-F.Leaf token) = names
with_declared_at names (Tree-F.Branch l cs) = with_declared_by names cs

-- the names together with those that an item declares as types
abbrev pub with_declared : List (List ℕ) → Tree → List (List ℕ)
with_declared names t = with_declared_at names (out-Tree t)
