use Rattle.std.proofs.Common.{◌≡◌, drop, map}
use Rattle.std.specs.List.{list_any}
use Rattle.c_terms.specs.Trees.{join, leaves}
use Rattle.ctl_fixpoint.specs.RequiredWords.Words.{is_word, has_word}
use Rattle.ctl_fixpoint.proofs.required_words.solving.+lacking.Given as goal

abbrev pub invariant-loop-child : goal.invariant-loop-child
invariant-loop-child l = list_any (is_word l.word) (join (map leaves (drop l.child-index l.child-items))) ≡ has_word l.word l.tree
