-- Items that lack a word which a formula needs.
use Rattle.std.specs.Prelude.{ℕ, ◌≡◌, Bool, true, false, not, Option, None, Some, List}
use Rattle.c_terms.specs.declared.tree.Tree.{Tree}
use Rattle.ctl_formula.specs.Formulas.{FormulaOf, plain}
use Rattle.ctl_fixpoint.specs.RequiredWords.Words.{needs, is_among, has_words}

-- the formula needs each of these words
abbrev pub AreNeeded : List (List ℕ) → FormulaOf → Type 0
AreNeeded words f = (w : List ℕ) → is_among words w ≡ true → needs w (plain f) ≡ true

-- the tree lacks one of the words
abbrev pub misses : List (List ℕ) → Option Tree → Bool
misses words None = false
misses words (Some t) = not (has_words words t)
