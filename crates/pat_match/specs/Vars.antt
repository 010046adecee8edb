-- The variables of a pattern: those of its tokens, its positions, and the positions that these except.
use Rattle.std.specs.Prelude.{Bool, true, ◌&&◌, Option, Some, None, List, slice_get}
use Rattle.std.specs.List.{list_all}
use Rattle.c_terms.specs.declared.token.Token.{Token}
use Rattle.c_terms.specs.declared.tree.Tree.{Tree}
use Rattle.c_terms.specs.Trees.{leaves}
use Rattle.smpl_terms.specs.declared.var.Var.{Var}
use Rattle.smpl_patch.specs.declared.pattern.VarDecl.{VarDecl}
use Rattle.smpl_patch.specs.declared.pattern.PatToken.{PatToken}
use Rattle.smpl_patch.specs.declared.pattern.Pattern.{Pattern}
use Rattle.pat_match.specs.Tokens.{not_places}
use Rattle.pat_match.specs.Matching.{meta_passes}

module _ (decls : List VarDecl) (test : Var → Bool) where
  -- the position and those that it must not be pass
  abbrev pub place_vars : Var → Bool
  place_vars x = test x && list_all test (not_places decls x)

  abbrev pub stand_vars : Option PatToken → Bool
  stand_vars None = true
  stand_vars (Some p) = list_all place_vars p.positions

module _ (decls : List VarDecl) (tokens : List PatToken) (test : Var → Bool) where
  abbrev pub token_vars : Token → Bool
  token_vars a = meta_passes decls test a.kind a && stand_vars decls test (slice_get tokens a.id)

  abbrev pub comma_vars : Option Token → Bool
  comma_vars None = true
  comma_vars (Some a) = stand_vars decls test (slice_get tokens a.id)

  abbrev pub leaf_vars : Option Token → Bool
  leaf_vars None = true
  leaf_vars (Some a) = token_vars a

  -- each variable of the form passes
  abbrev pub form_vars : Tree → Bool
  form_vars f = list_all token_vars (leaves f)

  -- each variable of the pattern passes
  abbrev pub pattern_vars : Pattern → Bool
  pattern_vars p = list_all form_vars p.forms
