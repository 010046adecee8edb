use Rattle.std.proofs.Common.{◌≡◌, ◌++◌, drop}
use Rattle.smpl_meta.specs.Index.{names_of}
use Rattle.smpl_meta.proofs.variables.names_of.Given as goal

abbrev pub invariant-loop-d : goal.invariant-loop-d
invariant-loop-d l = l.names ++ names_of (drop l.d-index l.vars) ≡ names_of l.vars
