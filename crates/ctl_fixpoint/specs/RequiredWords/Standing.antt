-- In which patterns of a table words occur: only such words can be needed by a formula.
use Rattle.std.specs.Prelude.{ℕ, Bool, false, List}
use Rattle.smpl_patch.specs.declared.pattern.Pattern.{Pattern}
use Rattle.smpl_patch.specs.Patterns.{in_first}
use Rattle.ctl_formula.specs.declared.node.Node.{Node}
use Rattle.ctl_formula.specs.declared.node.Node.TheVariants as node
use Rattle.ctl_fixpoint.specs.RequiredWords.Words.{has_word}

module _ (w : List ℕ) where
  -- the word is in the pattern's first form
  abbrev pub stands : Pattern → Bool
  stands p = in_first (has_word w) p.forms

  -- the word is in the first form of the node's own pattern, if it has one
  abbrev pub stands_at : Node → Bool
  stands_at (node.Atom p) = stands p
  stands_at (node.BraceOpen p b) = stands p
  stands_at (node.BraceClose p b) = stands p
  stands_at _ = false
