use Rattle.std.proofs.Common.{length, ◌-◌}
use Rattle.smpl_meta.proofs.PartLemmas.{PartsSoFar}
use Rattle.smpl_meta.proofs.decls.parse.Given as goal

abbrev pub invariant-loop-start : goal.invariant-loop-start
invariant-loop-start l = PartsSoFar l.tokens l.fn.first l.start l.parsed.items l.parsed.first l.types

abbrev pub decreases-loop-start : goal.decreases-loop-start
decreases-loop-start l = length l.tokens - l.start
