-- When a pattern matches at a node, and where: the first of its forms that fits a subtree there.
use Rattle.std.specs.Prelude.{ℕ, suc, Bool, true, ◌&&◌, ◌||◌, not, cond, Option, Some, None, List, [], ◌∷◌, ◌++◌, slice_get}
use Rattle.std.specs.List.{list_any, list_all}
use Rattle.c_terms.specs.declared.token.Token.{Token}
use Rattle.c_terms.specs.declared.token.TokenKind.{TokenKind}
use Rattle.c_terms.specs.declared.token.TokenKind.TheVariants as token_kind
use Rattle.c_terms.specs.declared.tree.Tree.{Tree}
use Rattle.c_terms.specs.Trees.{leaves}
use Rattle.c_terms.specs.Places.{Place}
use Rattle.cfg_build.specs.declared.cfg_graph.label.NodeLabel.{NodeLabel}
use Rattle.smpl_terms.specs.declared.var.Var.{Var}
use Rattle.c_types.specs.Tables.{ItemTypes}
use Rattle.smpl_patch.specs.declared.pattern.VarDecl.{VarDecl}
use Rattle.smpl_patch.specs.declared.pattern.PatToken.{PatToken}
use Rattle.smpl_patch.specs.declared.pattern.Spot.{Spot}
use Rattle.smpl_patch.specs.declared.pattern.Pattern.{Pattern}
use Rattle.smpl_patch.specs.Patterns.{declared_as, held_sure, in_first}
use Rattle.smpl_terms.specs.Environments.{Environment}
use Rattle.pat_match.specs.declared.aligning.Alignment.{Alignment}
use Rattle.pat_match.specs.declared.role.NodeRole.{NodeRole}
use Rattle.pat_match.specs.Spots.{seats, fits_at}
use Rattle.pat_match.specs.Roles.{role_of, may_stand}

abbrev pub var_passes : (Var → Bool) → Option VarDecl → Bool
var_passes test None = true
var_passes test (Some d) = test d.var

abbrev pub positions_pass : (Var → Bool) → Option PatToken → Bool
positions_pass test None = true
positions_pass test (Some p) = list_all test p.positions

-- the number of the first that passes, counted from n
abbrev pub first_from : ℕ → (Tree → Bool) → List Tree → Option ℕ
first_from n test [] = None
first_from n test (f ∷ fs) = cond (test f) (Some n) (first_from (suc n) test fs)

abbrev pub put_form : List ℕ → Option ℕ → List Alignment
put_form path None = []
put_form path (Some i) = record { path = path; form = i } ∷ []

module _ (decls : List VarDecl) where
  abbrev pub meta_passes : (Var → Bool) → TokenKind → Token → Bool
  meta_passes test (token_kind.Meta k) a = var_passes test (declared_as decls a.text)
  meta_passes test _ a = true

module _ (decls : List VarDecl) (tokens : List PatToken) where
  -- the variable of the token, if it has one, and its positions pass
  abbrev pub token_passes : (Var → Bool) → Token → Bool
  token_passes test a = meta_passes decls test a.kind a && positions_pass test (slice_get tokens a.id)

  -- if x is sure in the first form, it is sure in this one
  abbrev pub keeps : Spot → Tree → Tree → Var → Bool
  keeps s first form x = not (held_sure decls tokens s x first) || held_sure decls tokens s x form

  -- the form has every variable that is sure in the compared part of the first form
  abbrev pub is_live : Spot → Tree → Tree → Bool
  is_live s first form = list_all (token_passes (keeps s first form)) (leaves first)

  abbrev pub is_live_in : Pattern → Tree → Bool
  is_live_in p form = in_first (λ first. is_live p.spot first form) p.forms

module _ (decls : List VarDecl) (tokens : List PatToken) (types : ItemTypes) (env : Environment) where
  -- the form has the first form's sure variables, may be at a node of this role, and fits the subtree
  abbrev pub fits_seat : Pattern → NodeRole → Tree → Tree → Bool
  fits_seat p r form t =
      (is_live_in decls tokens p form && may_stand r form) && fits_at decls tokens types env p.spot r.kind form t

  -- The pattern matches at the node: some form fits some subtree.
  abbrev pub matches : Pattern → NodeLabel → Bool
  matches p n = list_any (λ f. list_any (λ s. fits_seat p (role_of n) f s.tree) (seats p.spot n.kind n.tree)) p.forms

  abbrev pub form_at : Pattern → NodeRole → Tree → Option ℕ
  form_at p r t = first_from 0 (λ f. fits_seat p r f t) p.forms

  -- the subtrees that match, by their paths from the item
  abbrev pub aligned_at : Pattern → NodeRole → List ℕ → List Place → List Alignment
  aligned_at p r above [] = []
  aligned_at p r above (s ∷ ss) = put_form (above ++ s.path) (form_at p r s.tree) ++ aligned_at p r above ss

  -- each subtree that matches, by place, with its first form that matches
  abbrev pub aligns : Pattern → NodeLabel → List Alignment
  aligns p n = aligned_at p (role_of n) n.path (seats p.spot n.kind n.tree)
