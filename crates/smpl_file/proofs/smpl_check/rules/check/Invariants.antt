use Rattle.std.proofs.Common.{◌≡◌, drop}
use Rattle.smpl_file.specs.SmplCheck.Checks.{fault_from, first_fault}
use Rattle.smpl_file.proofs.smpl_check.rules.check.Given as goal

abbrev pub invariant-loop-n : goal.invariant-loop-n
invariant-loop-n l = fault_from l.n (drop l.n l.rule-items) ≡ first_fault l.patch
