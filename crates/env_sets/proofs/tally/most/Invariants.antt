use Rattle.std.proofs.Common.{◌<◌, length}
use Rattle.env_sets.proofs.tally.most.Given as goal

abbrev pub invariant-loop-i : goal.invariant-loop-i
invariant-loop-i l = l.best < length l.counts
