-- The words that a formula needs: in an item that lacks one of them the formula holds nowhere.
use Rattle.std.specs.Prelude.{ℕ, Bool, true, false, ◌&&◌, ◌||◌, List, [], ◌∷◌}
use Rattle.std.specs.List.{list_any, list_all}
use Rattle.c_terms.specs.declared.token.Token.{Token}
use Rattle.c_terms.specs.declared.token.TokenKind.{TokenKind}
use Rattle.c_terms.specs.declared.token.TokenKind.TheVariants as kind
use Rattle.c_terms.specs.declared.shape.Shape.{Shape}
use Rattle.c_terms.specs.declared.shape.Shape.TheVariants as shape
use Rattle.c_terms.specs.declared.tree.Tree.{Tree}
use Rattle.c_terms.specs.declared.tree.Tree.TheOpen.{Tree-F}
use Rattle.c_terms.specs.declared.tree.Tree.TheFolds.{fold-Tree}
use Rattle.c_terms.specs.Trees.{leaves}
use Rattle.c_terms.specs.Same.{same_bytes}
use Rattle.c_terms.specs.Shapes.{shape_of}
use Rattle.smpl_patch.specs.declared.pattern.Spot.{Spot}
use Rattle.smpl_patch.specs.declared.pattern.Pattern.{Pattern}
use Rattle.smpl_patch.specs.Patterns.{Sure, is_sign}
use Rattle.smpl_patch.specs.Held.{held}
use Rattle.ctl_formula.specs.Plain.{Plain, True, Atom, EarlyExit, BraceOpen, BraceClose, Inside, Outside, Not, And, Or, AX, EX, AU}
use Rattle.ctl_formula.specs.Plain.{EU, After, InBranch, Exists}

-- a name, a keyword, a number or a literal
abbrev pub is_word_kind : TokenKind → Bool
is_word_kind kind.Name = true
is_word_kind kind.Keyword = true
is_word_kind kind.Number = true
is_word_kind kind.Char = true
is_word_kind kind.Str = true
is_word_kind _ = false

-- a pattern without forms matches nowhere, and spells no word
abbrev pub has_form : List Tree → Bool
has_form [] = false
has_form (f ∷ fs) = true

module _ (w : List ℕ) where
  -- the token is the word
  abbrev pub is_word : Token → Bool
  is_word a = is_word_kind a.kind && same_bytes a.text w

  -- one of the tree's tokens is the word
  abbrev pub has_word : Tree → Bool
  has_word t = list_any is_word (leaves t)

  -- a disjunction has a branch and spells what each of its branches spells; any other branch spells what one of its children
  -- spells
  abbrev pub spells_by : Shape → List Sure → Bool
  spells_by shape.Or ss = list_any (λ s. s.sure) ss && list_all (λ s. s.sign || s.sure) ss
  spells_by shape.And ss = list_any (λ s. s.sure) ss
  spells_by shape.List ss = list_any (λ s. s.sure) ss
  spells_by shape.Plain ss = list_any (λ s. s.sure) ss

  abbrev pub spells_step : Tree-F Sure → Sure
  spells_step (Tree-F.Leaf a) = record { sign = is_sign a.kind; sure = is_word a }
  spells_step (Tree-F.Branch l ss) = record { sign = false; sure = spells_by (shape_of l) ss }

  -- the form spells the word however it fits
  abbrev pub spells : Tree → Bool
  spells t = (fold-Tree Sure spells_step t).sure

  -- the part of the form that is compared at the spot spells the word
  abbrev pub held_spells : Spot → Tree → Bool
  held_spells s form = list_any spells (held s form)

  -- the pattern has a form, and each of its forms spells the word
  abbrev pub spelled : Pattern → Bool
  spelled p = has_form p.forms && list_all (held_spells p.spot) p.forms

  -- the formula can't hold in an item in which no token is the word
  abbrev pub needs : Plain → Bool
  needs True = false
  needs (Atom p) = spelled p
  needs EarlyExit = false
  needs (BraceOpen p b) = spelled p
  needs (BraceClose p b) = spelled p
  needs (Inside b) = false
  needs (Outside b) = false
  needs (Not f) = false
  needs (And f h) = needs f || needs h
  needs (Or f h) = needs f && needs h
  needs (AX f) = needs f
  needs (EX f) = needs f
  needs (AU f h) = needs h
  needs (EU f h) = needs h
  needs (After f) = needs f
  needs (InBranch i f) = needs f
  needs (Exists x f) = needs f

-- the word is one of these
abbrev pub is_among : List (List ℕ) → List ℕ → Bool
is_among words w = list_any (λ x. same_bytes x w) words

-- each of these words is in the tree
abbrev pub has_words : List (List ℕ) → Tree → Bool
has_words words t = list_all (λ w. has_word w t) words
