use Rattle.std.proofs.Common.{◌≤◌}
use Rattle.iso_file.specs.Lost.{BothWays}
use Rattle.iso_file.proofs.lost.start_of.Given as goal

abbrev pub invariant-loop-start : goal.invariant-loop-start
invariant-loop-start l = record { within : l.start ≤ l.i; leads : BothWays l.both l.start l.i }

abbrev pub decreases-loop-start : goal.decreases-loop-start
decreases-loop-start l = l.start
