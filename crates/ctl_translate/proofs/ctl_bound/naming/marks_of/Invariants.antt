use Rattle.std.proofs.Common.{◌≡◌, ℕ, ◌&&◌, Some, nat_lt}
use Rattle.std.specs.Prelude.{slice_get}
use Rattle.smpl_terms.specs.declared.var.Var.{Var}
use Rattle.smpl_patch.specs.Patterns.{sure}
use Rattle.pattern_vars.specs.Reads.{number_of}
use Rattle.ctl_formula.specs.declared.node.Node.{Node}
use Rattle.ctl_translate.specs.CtlBound.Naming.{names, is_marked}
use Rattle.ctl_translate.proofs.ctl_bound.naming.marks_of.Given as goal

abbrev pub invariant-loop-part : goal.invariant-loop-part
invariant-loop-part l = (x : Var) (k : ℕ) → number_of l.vars x ≡ Some k → (i : ℕ) (n : Node)
    → slice_get l.parts i ≡ Some n
    → is_marked l.marks.items i k ≡ (nat_lt i l.part && names (sure l.decls l.tokens) n x)
