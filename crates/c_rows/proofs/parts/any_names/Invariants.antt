use Rattle.std.proofs.Common.{◌≡◌, drop, map}
use Rattle.c_rows.specs.Branches.{any_of}
use Rattle.c_rows.specs.declared.facts.Facts.{Facts}
use Rattle.c_rows.proofs.parts.any_names.Given as goal

abbrev pub invariant-loop-part : goal.invariant-loop-part
invariant-loop-part l = any_of (map (λ (f : Facts). f.names) (drop l.part-index l.parts)) ≡ any_of (map (λ (f : Facts). f.names) l.parts)
