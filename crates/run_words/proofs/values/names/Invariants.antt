use Rattle.std.proofs.Common.{◌-◌, length}
use Rattle.run_words.proofs.Names.{SoFar}
use Rattle.run_words.proofs.values.names.Given as goal

abbrev pub invariant-texts : goal.invariant-texts
invariant-texts l = SoFar l.text l.names.items l.start

abbrev pub decreases-texts : goal.decreases-texts
decreases-texts l = length l.text - l.start
