use Rattle.std.proofs.Common.{◌≡◌, drop}
use Rattle.smpl_patch.specs.Patterns.{declared_as}
use Rattle.smpl_patch.proofs.reading.declared_as.Given as goal

abbrev pub invariant-loop-d : goal.invariant-loop-d
invariant-loop-d l = declared_as (drop l.d-index l.decls) l.name ≡ declared_as l.decls l.name
