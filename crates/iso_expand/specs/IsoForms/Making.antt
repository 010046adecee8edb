-- The tree that a side makes: each variable's value, and other tokens with one id.
use Rattle.std.specs.Prelude.{ℕ, List, Option, Some, None, unwrap_or, slice_get}
use Rattle.c_terms.specs.declared.token.Token.{Token}
use Rattle.c_terms.specs.declared.token.TokenKind.{TokenKind}
use Rattle.c_terms.specs.declared.token.TokenKind.TheVariants as kind
use Rattle.c_terms.specs.declared.tree.Tree.{Tree}
use Rattle.c_terms.specs.declared.tree.Tree.TheOpen.{Tree-F}
use Rattle.c_terms.specs.declared.tree.Tree.TheVariants.{Leaf, Branch}
use Rattle.c_terms.specs.declared.tree.Tree.TheFolds.{fold-Tree}
use Rattle.c_terms.specs.Trees.{leaves}
use Rattle.iso_expand.specs.declared.iso_forms.matching.Bound.{Bound}
use Rattle.iso_expand.specs.IsoForms.Matching.{value}

abbrev pub numbered : ℕ → Token → Tree
numbered id a = Leaf (record { kind = a.kind; text = a.text; id = id })

module _ (bound : List Bound) (id : ℕ) where
  abbrev pub make_variable : Token → Tree
  make_variable a = unwrap_or (value bound a.text) (numbered id a)

  abbrev pub make_leaf : TokenKind → Token → Tree
  make_leaf (kind.Meta k) a = make_variable a
  make_leaf _ a = numbered id a

  abbrev pub make_step : Tree-F Tree → Tree
  make_step (Tree-F.Leaf a) = make_leaf a.kind a
  make_step (Tree-F.Branch l cs) = Branch l cs

  abbrev pub made : Tree → Tree
  made = fold-Tree Tree make_step

abbrev pub id_of : Option Token → ℕ
id_of None = 0
id_of (Some a) = a.id

-- the id of the first token
abbrev pub first_id : Tree → ℕ
first_id t = id_of (slice_get (leaves t) 0)
