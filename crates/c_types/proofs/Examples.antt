-- The definitions at small types and tables.
use Rattle.std.proofs.Common.{◌≡◌, ℕ, true, false, refl, List, [], ◌∷◌, Option, None, Some}
use Rattle.std.specs.Prelude.{codes}
use Rattle.c_terms.specs.declared.token.TokenKind.TheVariants as kind
use Rattle.c_types.specs.declared.ty.Ty.{Ty}
use Rattle.c_types.specs.declared.tree_key.TreeKey.{TreeKey}
use Rattle.c_types.specs.Tables.{type_at, with_typed, has_local}

module _ (t u : Ty) where
  abbrev inner : TreeKey
  inner = record { first = Some 7; levels = 0 }

  abbrev outer : TreeKey
  outer = record { first = Some 7; levels = 1 }

  -- `p` and `p->n` have the same first token, and the second has one level more
  nested_apart : type_at (record { key = inner; ty = t } ∷ record { key = outer; ty = u } ∷ []) outer ≡ Some u
  nested_apart = refl

  not_there : type_at (record { key = inner; ty = t } ∷ []) outer ≡ None
  not_there = refl

  -- an expression that is there keeps its type
  first_stays : with_typed (record { key = inner; ty = t } ∷ []) (record { key = inner; ty = u }) ≡ record { key = inner; ty = t } ∷ []
  first_stays = refl

  -- a keyword is no local name, whatever its id
  keywords_apart : has_local (record { trees = []; locals = 7 ∷ [] }) (record { kind = kind.Keyword; text = codes "int"; id = 7 }) ≡ false
  keywords_apart = refl

  local_name : has_local (record { trees = []; locals = 7 ∷ [] }) (record { kind = kind.Name; text = codes "p"; id = 7 }) ≡ true
  local_name = refl
