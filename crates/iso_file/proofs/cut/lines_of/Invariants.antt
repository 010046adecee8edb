use Rattle.std.proofs.Common.{◌-◌, length}
use Rattle.iso_file.proofs.Joining.{Leads}
use Rattle.iso_file.proofs.cut.lines_of.Given as goal

abbrev pub invariant-loop-start : goal.invariant-loop-start
invariant-loop-start l = Leads l.bytes l.start l.cutting

abbrev pub decreases-loop-start : goal.decreases-loop-start
decreases-loop-start l = length l.bytes - l.start
