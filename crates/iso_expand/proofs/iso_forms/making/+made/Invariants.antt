use Rattle.std.proofs.Common.{◌≡◌, take, map}
use Rattle.iso_expand.specs.IsoForms.Making.{made}
use Rattle.iso_expand.proofs.iso_forms.making.+made.Given as goal

abbrev pub invariant-loop-child : goal.invariant-loop-child
invariant-loop-child l = l.trees.items ≡ map (made l.bound l.id) (take l.child-index l.child-items)
