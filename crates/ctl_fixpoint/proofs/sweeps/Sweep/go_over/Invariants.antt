use Rattle.ctl_fixpoint.specs.Sweeps.{SweepsLast}
use Rattle.ctl_fixpoint.proofs.sweeps.Sweep.go_over.Given as goal

abbrev pub invariant-loop-n : goal.invariant-loop-n
invariant-loop-n l = SweepsLast l.g l.every l.way l.end l.n l.initial.self l.self l.any
