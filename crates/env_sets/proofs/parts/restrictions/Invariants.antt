use Rattle.std.proofs.Common.{take}
use Rattle.env_sets.specs.Splits.{AreRestrictions}
use Rattle.env_sets.proofs.parts.restrictions.Given as goal

abbrev pub invariant-loop-e : goal.invariant-loop-e
invariant-loop-e l = AreRestrictions l.x l.values (take l.e-index l.a) l.parts.items
