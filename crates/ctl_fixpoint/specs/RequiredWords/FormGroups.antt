-- Runs of a pattern's forms that need the same word: if a node's tree lacks it, no form of the run fits.
use Rattle.std.specs.Prelude.{◌≡◌, ◌≤◌, ◌<◌, ℕ, Bool, true, false, not, Option, Some, None, List, [], ◌∷◌, length, slice_get, ⊤}
use Rattle.std.specs.List.{list_any}
use Rattle.c_terms.specs.declared.tree.Tree.{Tree}
use Rattle.smpl_terms.specs.Environments.{Environment}
use Rattle.c_types.specs.Tables.{ItemTypes}
use Rattle.smpl_patch.specs.declared.pattern.VarDecl.{VarDecl}
use Rattle.smpl_patch.specs.declared.pattern.PatToken.{PatToken}
use Rattle.smpl_patch.specs.declared.pattern.Pattern.{Pattern}
use Rattle.smpl_patch.specs.declared.pattern.Spot.{Spot}
use Rattle.pat_match.specs.declared.role.NodeRole.{NodeRole}
use Rattle.pat_match.specs.Spots.{seats}
use Rattle.pat_match.specs.Matching.{fits_seat}
use Rattle.ctl_fixpoint.specs.declared.required_words.form_groups.FormGroup.{FormGroup}
use Rattle.ctl_fixpoint.specs.RequiredWords.Words.{has_word, held_spells}

-- the form needs the word, if there is a word
abbrev pub finds : Option (List ℕ) → Spot → Tree → Bool
finds None s form = true
finds (Some w) s form = held_spells w s form

-- there is a word, and none of the tree's tokens is it
abbrev pub is_absent : Option (List ℕ) → Tree → Bool
is_absent None t = false
is_absent (Some w) t = not (has_word w t)

-- each of the forms from number n up to number e needs the word
abbrev pub IsRun : Spot → List Tree → Option (List ℕ) → (n e : ℕ) → Type 0
IsRun s forms w n e = (i : ℕ) (form : Tree) → n ≤ i → i < e → slice_get forms i ≡ Some form → finds w s form ≡ true

-- the runs are consecutive, from the form with number n up to the one with number e
abbrev pub Covers : Spot → List Tree → (n : ℕ) → List FormGroup → (e : ℕ) → Type 0
Covers s forms n [] e = n ≡ e
Covers s forms n (l ∷ ls) e =
    (n ≤ l.end) × (l.end ≤ length forms) × IsRun s forms l.word n l.end × Covers s forms l.end ls e

-- The looks of a pattern: all its forms, run by run. If there are none, all forms are tried.
abbrev pub AreFormGroups : Pattern → List FormGroup → Type 0
AreFormGroups p [] = ⊤
AreFormGroups p (l ∷ ls) = Covers p.spot p.forms 0 (l ∷ ls) (length p.forms)

module _ (decls : List VarDecl) (tokens : List PatToken) (types : ItemTypes) (env : Environment) where
  -- the form fits some subtree of the node
  abbrev pub fits_some : Pattern → NodeRole → Tree → Tree → Bool
  fits_some p r t form = list_any (λ s. fits_seat decls tokens types env p r form s.tree) (seats p.spot r.kind t)
