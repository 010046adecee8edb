use Rattle.std.proofs.Common.{◌≡◌, drop}
use Rattle.iso_file.specs.Sides.{have_kinds}
use Rattle.iso_file.proofs.vars.have_kinds.Given as goal

abbrev pub invariant-loop-d : goal.invariant-loop-d
invariant-loop-d l = have_kinds (drop l.d-index l.vars) ≡ have_kinds l.vars
