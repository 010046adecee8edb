use Rattle.std.proofs.Common.{◌≡◌, ℕ, ◌&&◌, ◌||◌, take, Some, nat_eq}
use Rattle.smpl_terms.specs.declared.var.Var.{Var}
use Rattle.pattern_vars.specs.Reads.{has, number_of}
use Rattle.ctl_translate.specs.CtlBound.Naming.{is_marked}
use Rattle.ctl_translate.proofs.ctl_bound.naming.push_marks.Given as goal

abbrev pub invariant-loop-j : goal.invariant-loop-j
invariant-loop-j l = (x : Var) (i k : ℕ) → number_of l.vars x ≡ Some k
    → is_marked l.marks.items i k ≡ (is_marked l.fn.marks.items i k || (nat_eq l.part i && has (take l.j l.set) x))
