use Rattle.std.proofs.Common.{◌≡◌, ◌||◌, drop}
use Rattle.std.specs.List.{list_any, list_all}
use Rattle.smpl_patch.specs.Patterns.{is_sign_tree}
use Rattle.ctl_fixpoint.specs.RequiredWords.Words.{spells}
use Rattle.ctl_fixpoint.proofs.required_words.spell.+spell.Given as goal

abbrev pub invariant-in_every-loop-tree : goal.invariant-in_every-loop-tree
invariant-in_every-loop-tree l = list_all (λ t. is_sign_tree t || spells l.word t) (drop l.tree-index l.trees)
    ≡ list_all (λ t. is_sign_tree t || spells l.word t) l.trees

abbrev pub invariant-in_some-loop-tree : goal.invariant-in_some-loop-tree
invariant-in_some-loop-tree l = list_any (spells l.word) (drop l.tree-index l.trees) ≡ list_any (spells l.word) l.trees
