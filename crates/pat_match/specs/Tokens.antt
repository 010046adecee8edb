-- When one token of a pattern fits: its metavariable, and the positions and plus code attached to it.
use Rattle.std.specs.Prelude.{ℕ, Bool, true, false, cond, ◌&&◌, not, Option, Some, None, List, [], ◌∷◌, slice_get}
use Rattle.std.specs.List.{list_all}
use Rattle.c_terms.specs.declared.token.Token.{Token}
use Rattle.c_terms.specs.declared.token.TokenKind.{TokenKind}
use Rattle.c_terms.specs.declared.token.TokenKind.TheVariants as kind
use Rattle.c_terms.specs.declared.token.MetaKind.{MetaKind}
use Rattle.c_terms.specs.declared.tree.Tree.{Tree, out-Tree}
use Rattle.c_terms.specs.Trees.{leaves}
use Rattle.smpl_terms.specs.declared.var.Var.{Var}
use Rattle.smpl_terms.specs.declared.value.Value.TheVariants.{Term, Place}
use Rattle.smpl_patch.specs.declared.pattern.VarDecl.{VarDecl}
use Rattle.smpl_patch.specs.declared.pattern.PatToken.{PatToken}
use Rattle.smpl_patch.specs.declared.pattern.PlusBlock.{PlusBlock}
use Rattle.smpl_terms.specs.Values.{same}
use Rattle.smpl_terms.specs.Vars.{same_var}
use Rattle.smpl_patch.specs.Patterns.{declared_as}
use Rattle.smpl_terms.specs.Environments.{Environment}
use Rattle.c_types.specs.Tables.{ItemTypes}
use Rattle.pat_match.specs.Kinds.{is_of_kind, is_named, plain_fits}
use Rattle.pat_match.specs.Wants.{is_wanted}

-- the positions that the position x must not be
abbrev pub not_places : List VarDecl → Var → List Var
not_places [] x = []
not_places (d ∷ ds) x = cond (same_var d.var x) d.not_places (not_places ds x)

abbrev pub id_of : Option Token → Option ℕ
id_of None = None
id_of (Some a) = Some a.id

-- the id of the first token
abbrev pub first_id : Tree → Option ℕ
first_id t = id_of (slice_get (leaves t) 0)

abbrev pub has_none : List Var → Bool
has_none [] = true
has_none (x ∷ xs) = false

abbrev pub is_absent : Option PlusBlock → Bool
is_absent None = true
is_absent (Some b) = false

-- no position and no plus code
abbrev pub is_bare : Option PatToken → Bool
is_bare None = true
is_bare (Some p) = has_none p.positions && (is_absent p.before && is_absent p.after)

module _ (decls : List VarDecl) (env : Environment) where
  -- the position x is at the token with this id, and none that it excepts is
  abbrev pub is_place : ℕ → Var → Bool
  is_place id x = same (Place id) (env x) && list_all (λ y. not (same (Place id) (env y))) (not_places decls x)

  -- a pattern token that is aligned with nothing may have neither a position nor plus code
  abbrev pub stands_at : Option PatToken → Option ℕ → Bool
  stands_at None first = true
  stands_at (Some p) None = is_bare (Some p)
  stands_at (Some p) (Some id) = list_all (is_place id) p.positions

  -- a metavariable of this kind fits a tree that is of the kind, isn't excepted, is wanted and is its value
  abbrev pub meta_fits : ItemTypes → MetaKind → Option VarDecl → Tree → Bool
  meta_fits types k None t = false
  meta_fits types k (Some d) t =
      is_of_kind k (out-Tree t) && (not (is_named d.not_names (out-Tree t)) && (is_wanted types d.wanted t && same (Term t) (env d.var)))

  abbrev pub value_is : Option VarDecl → Tree → Bool
  value_is None t = false
  value_is (Some d) t = same (Term t) (env d.var)

  -- a list variable has the run of members as its value; dots have no value
  abbrev pub run_is : TokenKind → Token → Tree → Bool
  run_is (kind.Meta k) a whole = value_is (declared_as decls a.text) whole
  run_is _ a whole = true

  -- a metavariable fits as above, dots and signs fit no tree, any other token a leaf of its kind and text
  abbrev pub token_fits : ItemTypes → TokenKind → Token → Tree → Bool
  token_fits types (kind.Meta k) a t = meta_fits types k (declared_as decls a.text) t
  token_fits types kind.Dots a t = false
  token_fits types kind.Pat a t = false
  token_fits types _ a t = plain_fits a (out-Tree t)

module _ (decls : List VarDecl) (tokens : List PatToken) (env : Environment) where
  -- the positions and plus code of a pattern token are at the first token that it is aligned with
  abbrev pub stands : Token → Option ℕ → Bool
  stands tok first = stands_at decls env (slice_get tokens tok.id) first

  abbrev pub leaf_fits : ItemTypes → Token → Tree → Bool
  leaf_fits types a t = token_fits decls env types a.kind a t && stands a (first_id t)
