use Rattle.std.proofs.Common.{◌≡◌, drop}
use Rattle.iso_expand.specs.IsoForms.Matching.{value}
use Rattle.iso_expand.proofs.iso_forms.matching.value.Given as goal

abbrev pub invariant-loop-b : goal.invariant-loop-b
invariant-loop-b l = value (drop l.b-index l.bound) l.name ≡ value l.bound l.name
