-- Kinds of trees: which trees a metavariable of a kind may stand for, and which names it excepts.
use Rattle.std.specs.Prelude.{ℕ, Bool, true, false, ◌&&◌, ◌||◌, List}
use Rattle.std.specs.List.{list_any}
use Rattle.c_terms.specs.declared.token.Token.{Token}
use Rattle.c_terms.specs.declared.token.TokenKind.{TokenKind}
use Rattle.c_terms.specs.declared.token.TokenKind.TheVariants as kind
use Rattle.c_terms.specs.declared.token.MetaKind.{MetaKind}
use Rattle.c_terms.specs.declared.token.MetaKind.TheVariants as meta
use Rattle.c_terms.specs.declared.label.Label.{Label}
use Rattle.c_terms.specs.declared.label.Label.TheVariants as label
use Rattle.c_terms.specs.declared.tree.Tree.{Tree}
use Rattle.c_terms.specs.declared.tree.Tree.TheOpen.{Tree-F}
use Rattle.c_terms.specs.Constants.{is_constant_name, is_strings}
use Rattle.c_terms.specs.Same.{same_bytes, same_token}
use Rattle.c_terms.specs.Shapes.{is_operand, is_expression_label, is_type_label, is_statement_label}

abbrev pub is_name : TokenKind → Bool
is_name kind.Name = true
is_name _ = false

abbrev pub is_literal : TokenKind → Bool
is_literal kind.Number = true
is_literal kind.Char = true
is_literal kind.Str = true
is_literal _ = false

abbrev pub token_is_of : MetaKind → Token → Bool
token_is_of meta.Expr t = is_operand t.kind
token_is_of meta.Ident t = is_name t.kind
token_is_of meta.Constant t = is_literal t.kind || (is_name t.kind && is_constant_name t.text)
token_is_of _ t = false

abbrev pub label_is_of : MetaKind → Label → Bool
label_is_of meta.Expr l = is_expression_label l
label_is_of meta.Constant l = is_strings l
label_is_of meta.Typ l = is_type_label l
label_is_of meta.Stmt l = is_statement_label l
label_is_of _ l = false

-- the tree is of the kind; list variables fit no tree by themselves
abbrev pub is_of_kind : MetaKind → Tree-F Tree → Bool
is_of_kind k (Tree-F.Leaf t) = token_is_of k t
is_of_kind k (Tree-F.Branch l cs) = label_is_of k l

-- the tree is a token with one of these texts
abbrev pub is_named : List (List ℕ) → Tree-F Tree → Bool
is_named names (Tree-F.Leaf t) = list_any (λ n. same_bytes n t.text) names
is_named names (Tree-F.Branch l cs) = false

-- the tree is a token with this kind and text
abbrev pub plain_fits : Token → Tree-F Tree → Bool
plain_fits a (Tree-F.Leaf b) = same_token a b
plain_fits a (Tree-F.Branch k us) = false
