use Rattle.std.proofs.Common.{take}
use Rattle.smpl_file.specs.Patches.{AreRules}
use Rattle.smpl_file.proofs.rules.rules_under.Given as goal

abbrev pub invariant-loop-i : goal.invariant-loop-i
invariant-loop-i l = AreRules l.known 0 (take l.i l.text.rules) (take l.i l.heads.heads) l.rules
