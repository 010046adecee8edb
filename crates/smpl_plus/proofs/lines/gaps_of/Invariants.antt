use Rattle.std.proofs.Common.{◌-◌, length}
use Rattle.smpl_plus.proofs.Cutting.{Leads}
use Rattle.smpl_plus.proofs.lines.gaps_of.Given as goal

abbrev pub invariant-loop-start : goal.invariant-loop-start
invariant-loop-start l = Leads l.bytes l.start l.so_far.gaps l.so_far.blank

abbrev pub decreases-loop-start : goal.decreases-loop-start
decreases-loop-start l = length l.bytes - l.start
