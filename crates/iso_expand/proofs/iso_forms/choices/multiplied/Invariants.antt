use Rattle.std.proofs.Common.{◌≡◌, [], ◌∷◌, ◌++◌}
use Rattle.iso_expand.specs.IsoForms.Stepped.{grown}
use Rattle.iso_expand.proofs.iso_forms.choices.multiplied.Given as goal

abbrev pub invariant-loop-choice : goal.invariant-loop-choice
invariant-loop-choice l = l.out.items ≡ grown l.yielded (l.trees ++ l.last ∷ [])
