use Rattle.std.proofs.Common.{ℕ, ◌<◌}
use Rattle.ctl_formula.specs.Tables.{at, plains}
use Rattle.ctl_fixpoint.specs.CtlHolds.Parts.{EachPattern}
use Rattle.ctl_fixpoint.specs.CtlHolds.BoundLaw.{SureStand}
use Rattle.ctl_fixpoint.proofs.ctl_holds.stands.sure_variables_stand.Given as goal

abbrev pub invariant-loop-i : goal.invariant-loop-i
invariant-loop-i l = (k : ℕ) → k < l.i → EachPattern (SureStand l.f.decls l.f.tokens) (at (plains l.f.nodes) k)
