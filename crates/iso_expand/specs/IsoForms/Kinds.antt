-- Which trees of a pattern a variable of an isomorphism may stand for.
use Rattle.std.specs.Prelude.{ℕ, Bool, true, false, not, ◌||◌, List, [], Option, Some, None}
use Rattle.std.specs.List.{list_any}
use Rattle.c_terms.specs.declared.token.Token.{Token}
use Rattle.c_terms.specs.declared.token.TokenKind.{TokenKind}
use Rattle.c_terms.specs.declared.token.TokenKind.TheVariants as kind
use Rattle.c_terms.specs.declared.token.MetaKind.{MetaKind}
use Rattle.c_terms.specs.declared.token.MetaKind.TheVariants as meta
use Rattle.c_terms.specs.declared.label.Label.{Label}
use Rattle.c_terms.specs.declared.label.Label.TheVariants as label
use Rattle.c_terms.specs.declared.tree.Tree.{Tree}
use Rattle.c_terms.specs.declared.tree.Tree.TheOpen.{Tree-F}
use Rattle.c_terms.specs.Constants.{is_constant_name, is_strings}
use Rattle.c_terms.specs.Same.{same_bytes}
use Rattle.c_terms.specs.Shapes as shapes
use Rattle.smpl_patch.specs.declared.pattern.VarDecl.{VarDecl}
use Rattle.smpl_patch.specs.Patterns.{declared_as}

-- a token that is an expression of a pattern by itself
abbrev pub is_expression_token : TokenKind → Bool
is_expression_token kind.Name = true
is_expression_token kind.Number = true
is_expression_token kind.Char = true
is_expression_token kind.Str = true
is_expression_token (kind.Meta meta.Expr) = true
is_expression_token (kind.Meta meta.Ident) = true
is_expression_token (kind.Meta meta.Constant) = true
is_expression_token _ = false

abbrev pub is_choice : Label → Bool
is_choice label.PatOr = true
is_choice label.PatAnd = true
is_choice _ = false

-- an expression of C, or a disjunction or conjunction of expressions
abbrev pub is_expression : Label → Bool
is_expression l = shapes.is_expression_label l || is_choice l

-- a constant, or a metavariable for one
abbrev pub is_constant_token : TokenKind → List ℕ → Bool
is_constant_token kind.Number text = true
is_constant_token kind.Char text = true
is_constant_token kind.Str text = true
is_constant_token (kind.Meta meta.Constant) text = true
is_constant_token kind.Name text = is_constant_name text
is_constant_token _ text = false

-- a name that is not excepted, or a metavariable for one
abbrev pub is_identifier_token : List (List ℕ) → TokenKind → List ℕ → Bool
is_identifier_token excepted kind.Name text = not (list_any (λ n. same_bytes n text) excepted)
is_identifier_token excepted (kind.Meta meta.Ident) text = true
is_identifier_token excepted _ text = false

abbrev pub token_is_of : MetaKind → List (List ℕ) → Token → Bool
token_is_of meta.Expr excepted t = is_expression_token t.kind
token_is_of meta.Constant excepted t = is_constant_token t.kind t.text
token_is_of meta.Ident excepted t = is_identifier_token excepted t.kind t.text
token_is_of _ excepted t = false

abbrev pub label_is_of : MetaKind → Label → Bool
label_is_of meta.Expr l = is_expression l
label_is_of meta.Constant l = is_strings l
label_is_of _ l = false

-- a variable of this kind, for which some names are excepted, may stand for the tree
abbrev pub is_of_kind : MetaKind → List (List ℕ) → Tree-F Tree → Bool
is_of_kind k excepted (Tree-F.Leaf t) = token_is_of k excepted t
is_of_kind k excepted (Tree-F.Branch l cs) = label_is_of k l

abbrev pub names_of : Option VarDecl → List (List ℕ)
names_of None = []
names_of (Some d) = d.not_names

-- the names that the variable may not be
abbrev pub excepted : List VarDecl → List ℕ → List (List ℕ)
excepted vars name = names_of (declared_as vars name)
