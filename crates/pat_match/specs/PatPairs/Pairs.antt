-- Which tokens are aligned if a pattern matches a subtree, by their ids.
use Rattle.std.specs.Prelude.{ℕ, suc, ◌≡◌, ◌≤◌, ◌++◌, ◌&&◌, Bool, true, cond, Option, None, Some, List, [], ◌∷◌, map, take, drop, length}
use Rattle.c_terms.specs.declared.token.Token.{Token}
use Rattle.c_terms.specs.declared.label.Label.{Label}
use Rattle.c_terms.specs.declared.list.Member.{Member}
use Rattle.c_terms.specs.declared.tree.Tree.{Tree}
use Rattle.c_types.specs.Tables.{ItemTypes}
use Rattle.smpl_patch.specs.declared.pattern.VarDecl.{VarDecl}
use Rattle.smpl_patch.specs.declared.pattern.PatToken.{PatToken}
use Rattle.smpl_patch.specs.declared.pattern.Pattern.{Pattern}
use Rattle.smpl_terms.specs.Environments.{Environment}
use Rattle.pat_match.specs.declared.pat_pairs.pairs.AlignedToken.{AlignedToken}
use Rattle.pat_match.specs.declared.role.NodeRole.{NodeRole}
use Rattle.pat_match.specs.Runs.{Pair, takes, leftmost, runs_pairs}
use Rattle.pat_match.specs.Fitting.{piece}
use Rattle.pat_match.specs.Spots.{alignment_at}
use Rattle.pat_match.specs.Matching.{fits_seat}
use Rattle.pat_match.specs.Rows.{comma_before, fits_from}

abbrev pub ids_of : List Token → List ℕ
ids_of = map (λ a. a.id)

-- the ids of a token of a form and of the file's tokens that it is aligned with
abbrev pub aligned_token : Pair → AlignedToken
aligned_token p = record { pattern = p.0.id; files = ids_of p.1 }

abbrev pub numbers : List Pair → List AlignedToken
numbers = map aligned_token

module _ (decls : List VarDecl) (tokens : List PatToken) (types : ItemTypes) (env : Environment) where
  -- what is aligned by the first of these forms that fits the subtree
  abbrev pub first_aligned : Pattern → NodeRole → Tree → List Tree → Option (List AlignedToken)
  first_aligned p r t [] = None
  first_aligned p r t (f ∷ fs) =
      cond (fits_seat decls tokens types env p r f t) (Some (numbers (alignment_at decls tokens types env p.spot r.kind f t)))
      (first_aligned p r t fs)

  -- The tokens that are aligned if the pattern matches the subtree at a node of this role: those of its first form that
  -- matches.
  abbrev pub aligned_tokens : Pattern → NodeRole → Tree → Option (List AlignedToken)
  aligned_tokens p r t = first_aligned p r t p.forms

  -- for internal use

  -- the child takes this many of the members, and the children after it take the others
  abbrev pub takes_first : Label → List Tree → ℕ → Tree → List Member → ℕ → Bool
  takes_first l fs i f ms k = takes decls tokens env l (comma_before fs i) (piece decls tokens types env f) (take k ms)
      && fits_from decls tokens types l (comma_before fs (suc i)) (drop (suc i) fs) (drop k ms) env

  -- what the rest of a list is aligned with in its leftmost alignment
  abbrev pub left_pairs : Label → Option Token → List Tree → List Member → List Pair
  left_pairs l before fs ms = runs_pairs decls tokens env l before (map (piece decls tokens types env) fs) ms
      (leftmost decls tokens env l before (map (piece decls tokens types env) fs) ms)

-- From one child of a list to the next: the rest fits after this many members, and what is found, joined with what the rest
-- is aligned with, stays the same.
pub record IsNext (decls : List VarDecl) (tokens : List PatToken) (types : ItemTypes) (env : Environment) (l : Label) (fs : List Tree) (i : ℕ)
    (ms : List Member) (taken next : ℕ) (old new : List AlignedToken) : Type 0 where
  pub within : next ≤ length ms
  pub rest : fits_from decls tokens types l (comma_before fs (suc i)) (drop (suc i) fs) (drop next ms) env ≡ true
  pub found : old ++ numbers (left_pairs decls tokens types env l (comma_before fs i) (drop i fs) (drop taken ms))
      ≡ new ++ numbers (left_pairs decls tokens types env l (comma_before fs (suc i)) (drop (suc i) fs) (drop next ms))
