use Rattle.std.proofs.Common.{◌≡◌, ◌||◌, drop}
use Rattle.std.specs.List.{list_any, list_all}
use Rattle.smpl_patch.specs.Patterns.{is_sign_tree, is_sure}
use Rattle.smpl_patch.proofs.sure.+sure.Given as goal

abbrev pub invariant-in_every-loop-tree : goal.invariant-in_every-loop-tree
invariant-in_every-loop-tree l = list_all (λ t. is_sign_tree t || is_sure l.decls l.tokens l.x t) (drop l.tree-index l.trees)
    ≡ list_all (λ t. is_sign_tree t || is_sure l.decls l.tokens l.x t) l.trees

abbrev pub invariant-in_some-loop-tree : goal.invariant-in_some-loop-tree
invariant-in_some-loop-tree l = list_any (λ t. is_sure l.decls l.tokens l.x t) (drop l.tree-index l.trees)
    ≡ list_any (λ t. is_sure l.decls l.tokens l.x t) l.trees
