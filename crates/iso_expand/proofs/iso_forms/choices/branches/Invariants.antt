use Rattle.std.proofs.Common.{◌≡◌}
use Rattle.iso_expand.specs.IsoForms.Forms.{branches}
use Rattle.iso_expand.proofs.iso_forms.choices.branches.Given as goal

abbrev pub invariant-loop-children : goal.invariant-loop-children
invariant-loop-children l = l.out ≡ branches l.label l.yielded
