use Rattle.std.proofs.Common.{◌-◌, length}
use Rattle.smpl_meta.proofs.SplitLemmas.{SoFar}
use Rattle.smpl_meta.proofs.lists.parts_between.Given as goal

abbrev pub invariant-loop-parts : goal.invariant-loop-parts
invariant-loop-parts g l = SoFar (g.R.PartReader.spelled l.reader) l.tokens l.start l.parts

abbrev pub decreases-loop-parts : goal.decreases-loop-parts
decreases-loop-parts g l = length l.tokens - l.start
