use Rattle.std.proofs.Common.{◌-◌, length, drop}
use Rattle.iso_file.proofs.Arrows.{Parts}
use Rattle.iso_file.proofs.side.part_at_arrows.Given as goal

abbrev pub invariant-loop-i : goal.invariant-loop-i
invariant-loop-i l = Parts l.tokens (drop l.i l.tokens) l.parting

abbrev pub decreases-loop-i : goal.decreases-loop-i
decreases-loop-i l = length l.tokens - l.i
