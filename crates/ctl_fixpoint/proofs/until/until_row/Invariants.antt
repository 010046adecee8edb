use Rattle.ctl_fixpoint.specs.Sweeps.{SweptTimes}
use Rattle.ctl_fixpoint.proofs.until.until_row.Given as goal

abbrev pub invariant-loop-k : goal.invariant-loop-k
invariant-loop-k l = SweptTimes l.g l.every l.way l.end l._k l.sweep
