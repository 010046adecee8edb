-- The definitions at small values, especially at points that could be read in two ways.
use Rattle.std.proofs.Common.{◌≡◌, ℕ, Bool, true, false, refl, List, [], ◌∷◌, Option, Some, None}
use Rattle.std.specs.Prelude.{codes}
use Rattle.c_terms.specs.declared.token.Token.{Token}
use Rattle.c_terms.specs.declared.token.TokenKind.{TokenKind}
use Rattle.c_terms.specs.declared.token.TokenKind.TheVariants as kind
use Rattle.c_terms.specs.declared.token.MetaKind.TheVariants as meta
use Rattle.c_terms.specs.declared.label.Label.TheVariants as label
use Rattle.c_terms.specs.declared.tree.Tree.{Tree}
use Rattle.c_terms.specs.declared.tree.Tree.TheVariants.{Leaf}
use Rattle.smpl_terms.specs.declared.var.Var.{Var}
use Rattle.smpl_patch.specs.declared.pattern.Mark.{Mark}
use Rattle.smpl_patch.specs.declared.pattern.Mark.TheVariants as mark
use Rattle.smpl_patch.specs.declared.pattern.PatToken.{PatToken}
use Rattle.smpl_patch.specs.declared.pattern.PlusBlock.{PlusBlock}
use Rattle.iso_expand.specs.IsoForms.Kinds.{token_is_of, label_is_of}
use Rattle.iso_expand.specs.IsoForms.Replacing.{may_become, are_plain}
use Rattle.iso_expand.specs.IsoForms.Forms.{choices}

abbrev token : TokenKind → List ℕ → ℕ → Token
token k text id = record { kind = k; text = text; id = id }

-- ---- choices

abbrev leaf : ℕ → Tree
leaf id = Leaf (token kind.Name (codes "a") id)

-- the choices of the first child vary slowest
first_slowest : choices ((leaf 0 ∷ leaf 1 ∷ []) ∷ (leaf 2 ∷ leaf 3 ∷ []) ∷ [])
    ≡ (leaf 0 ∷ leaf 2 ∷ []) ∷ (leaf 0 ∷ leaf 3 ∷ []) ∷ (leaf 1 ∷ leaf 2 ∷ []) ∷ (leaf 1 ∷ leaf 3 ∷ []) ∷ []
first_slowest = refl

-- without children there is one choice
no_children : choices [] ≡ [] ∷ []
no_children = refl

-- ---- which side may become which, in `a <=> b => c <=> d`

abbrev arrows : List Bool
arrows = true ∷ false ∷ true ∷ []

to_the_right : may_become arrows 0 3 ≡ true
to_the_right = refl

to_the_left : may_become arrows 3 2 ≡ true
to_the_left = refl

not_against_an_arrow : may_become arrows 2 1 ≡ false
not_against_an_arrow = refl

not_over_an_arrow : may_become arrows 3 0 ≡ false
not_over_an_arrow = refl

not_itself : may_become arrows 1 1 ≡ false
not_itself = refl

-- ---- what a variable may stand for

-- an identifier may be a metavariable, whatever its name is
metavariables_are_not_excepted : token_is_of meta.Ident (codes "f" ∷ []) (token (kind.Meta meta.Ident) (codes "f") 0) ≡ true
metavariables_are_not_excepted = refl

names_are_excepted : token_is_of meta.Ident (codes "f" ∷ []) (token kind.Name (codes "f") 0) ≡ false
names_are_excepted = refl

capitals_are_constants : token_is_of meta.Constant [] (token kind.Name (codes "NULL") 0) ≡ true
capitals_are_constants = refl

small_letters_are_not : token_is_of meta.Constant [] (token kind.Name (codes "Null") 0) ≡ false
small_letters_are_not = refl

-- lists of arguments and dots are not expressions, but a disjunction is one
lists_are_none : token_is_of meta.Expr [] (token (kind.Meta meta.ExprList) (codes "es") 0) ≡ false
lists_are_none = refl

disjunctions_are : label_is_of meta.Expr label.PatOr ≡ true
disjunctions_are = refl

-- ---- where a tree may be replaced

abbrev at : Mark → List Var → Option PlusBlock → PatToken
at m positions after = record { mark = m; positions = positions; before = None; after = after }

abbrev two : List Token
two = token kind.Name (codes "a") 0 ∷ token kind.Name (codes "b") 1 ∷ []

one_mark : are_plain (at mark.Minus [] None ∷ at mark.Minus [] None ∷ []) two ≡ true
one_mark = refl

two_marks : are_plain (at mark.Minus [] None ∷ at mark.Context [] None ∷ []) two ≡ false
two_marks = refl

a_position : are_plain (at mark.Context [] None ∷ at mark.Context (record { rule = 0; name = codes "p" } ∷ []) None ∷ []) two ≡ false
a_position = refl

plus_code : are_plain (at mark.Context [] (Some (record { many = false; lines = [] })) ∷ at mark.Context [] None ∷ []) two ≡ false
plus_code = refl
