use Rattle.std.proofs.Common.{◌≡◌, true, ◌||◌, ◌&&◌, drop}
use Rattle.std.specs.List.{list_any, list_all}
use Rattle.smpl_terms.specs.declared.var.Var.{Var as Variable}
use Rattle.smpl_patch.specs.Patterns.{is_sign_tree, is_sure}
use Rattle.pattern_vars.specs.Reads.{has, is_declared}
use Rattle.pattern_vars.specs.Sure.{has_unless_all}
use Rattle.pattern_vars.proofs.sure.+sure.Given as goal

abbrev pub invariant-common_of-loop-branch : goal.invariant-common_of-loop-branch
invariant-common_of-loop-branch l = (y : Variable) → is_declared l.decls y ≡ true →
    (has_unless_all l.common y && list_all (λ t. is_sign_tree t || is_sure l.decls l.tokens y t) (drop l.branch-index l.branches))
    ≡ list_all (λ t. is_sign_tree t || is_sure l.decls l.tokens y t) l.branches

abbrev pub invariant-put_each-loop-tree : goal.invariant-put_each-loop-tree
invariant-put_each-loop-tree l = (y : Variable) → is_declared l.decls y ≡ true →
    (has l.set y || list_any (is_sure l.decls l.tokens y) (drop l.tree-index l.trees))
    ≡ (has l.initial.set y || list_any (is_sure l.decls l.tokens y) l.trees)
