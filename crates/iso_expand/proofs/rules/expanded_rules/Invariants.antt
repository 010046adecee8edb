use Rattle.std.proofs.Common.{◌≡◌, take}
use Rattle.iso_expand.specs.Patches.{AreExpanded}
use Rattle.iso_expand.proofs.rules.expanded_rules.Given as goal

abbrev pub invariant-loop-n : goal.invariant-loop-n
invariant-loop-n l = AreExpanded l.isos (take l.n l.rules) l.out
