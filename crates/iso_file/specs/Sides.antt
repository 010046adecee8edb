-- The parts of a block: `Expression`, `@ name @`, declarations, `@@`, and sides with arrows between them.
use Rattle.std.specs.Prelude.{ℕ, ◌+◌, ◌==◌, ◌&&◌, ◌||◌, not, if◌then◌else◌, Bool, true, false, List, [], ◌∷◌, ◌++◌, Option, Some, None, option_map, codes}
use Rattle.c_terms.specs.declared.token.MetaKind.TheVariants as meta
use Rattle.smpl_patch.specs.declared.pattern.VarKind.{VarKind}
use Rattle.smpl_patch.specs.declared.pattern.VarKind.TheVariants.{Meta}
use Rattle.smpl_patch.specs.declared.pattern.VarDecl.{VarDecl}
use Rattle.smpl_patch.specs.Wants.{is_anything}
use Rattle.smpl_lexer.specs.declared.token.PatchToken.{PatchToken}
use Rattle.smpl_lexer.specs.Tokens.{is_at, is_word, is_sign}
use Rattle.iso_file.specs.Lines.{put}

-- `Expression`, alone on its line
abbrev pub is_expression_line : List PatchToken → Bool
is_expression_line (t ∷ []) = is_word (codes "Expression") t
is_expression_line _ = false

-- `@@`, alone on its line
abbrev pub is_second : List PatchToken → Bool
is_second (first ∷ last ∷ []) = is_at first && is_at last
is_second _ = false

-- how many lines are before the first line `@@`
abbrev pub second_at : List (List PatchToken) → Option ℕ
second_at [] = None
second_at (l ∷ ls) = if is_second l then Some 0 else option_map (λ n. n + 1) (second_at ls)

abbrev pub concatenated : List (List PatchToken) → List PatchToken
concatenated [] = []
concatenated (l ∷ ls) = l ++ concatenated ls

-- ---- declarations: only expressions, constants and identifiers

abbrev pub is_kind_word : PatchToken → Bool
is_kind_word t = is_word (codes "expression") t || is_word (codes "constant") t || is_word (codes "identifier") t

-- each declaration begins with such a word; `begins` is whether one begins here
abbrev pub are_of_kinds : Bool → List PatchToken → Bool
are_of_kinds begins [] = true
are_of_kinds begins (t ∷ ts) = if begins && not (is_kind_word t) then false else are_of_kinds (is_sign (codes ";") t) ts

abbrev pub is_kind : VarKind → Bool
is_kind (Meta meta.Expr) = true
is_kind (Meta meta.Constant) = true
is_kind (Meta meta.Ident) = true
is_kind _ = false

-- each is of an allowed kind, and wants no special expressions
abbrev pub have_kinds : List VarDecl → Bool
have_kinds [] = true
have_kinds (d ∷ ds) = if is_kind d.kind && is_anything d.wanted then have_kinds ds else false

abbrev pub with_kinds : List VarDecl → Option (List VarDecl)
with_kinds ds = if have_kinds ds then Some ds else None

-- ---- arrows: two tokens with nothing between them

-- whether it goes both ways
abbrev pub arrow_of : PatchToken → PatchToken → Option Bool
arrow_of t next =
    if not (is_sign (codes ">") next) then None
    else (if is_sign (codes "=") t && next.at == t.at + 1 then Some false
    else (if is_sign (codes "<=") t && next.at == t.at + 2 then Some true else None))

-- the sides
abbrev pub sides_in : List PatchToken → List (List PatchToken)
sides_in [] = [] ∷ []
sides_in (t ∷ []) = (t ∷ []) ∷ []
sides_in (t ∷ n ∷ ts) = elim (arrow_of t n) as (λ o. List (List PatchToken)) [
  | Some both ↦ [] ∷ sides_in ts
  | None ↦ put t (sides_in (n ∷ ts))
]

-- the arrows between them: whether each goes both ways
abbrev pub arrows_in : List PatchToken → List Bool
arrows_in [] = []
arrows_in (t ∷ []) = []
arrows_in (t ∷ n ∷ ts) = elim (arrow_of t n) as (λ o. List Bool) [
  | Some both ↦ both ∷ arrows_in ts
  | None ↦ arrows_in (n ∷ ts)
]
