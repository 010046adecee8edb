use Rattle.std.proofs.Common.{◌≡◌, not, take}
use Rattle.std.specs.List.{filter}
use Rattle.ctl_table.specs.Table.{in_scope}
use Rattle.ctl_table.proofs.end_atoms.outside.Given as goal

abbrev pub invariant-loop-x : goal.invariant-loop-x
invariant-loop-x l = l.found ≡ filter (λ x. not (in_scope l.inner x)) (take l.x-index l.vars)
