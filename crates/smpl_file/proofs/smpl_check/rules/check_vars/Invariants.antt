use Rattle.std.proofs.Common.{◌≡◌, drop}
use Rattle.std.specs.Option.{option_copied}
use Rattle.smpl_file.specs.SmplCheck.Known.{fault_by}
use Rattle.smpl_file.proofs.smpl_check.rules.check_vars.Given as goal

abbrev pub invariant-loop-d : goal.invariant-loop-d
invariant-loop-d l = fault_by l.rule (option_copied l.unbound) (drop l.d-index l.d-items) ≡ fault_by l.rule (option_copied l.unbound) l.d-items
