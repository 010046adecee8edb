use Rattle.std.proofs.Common.{◌≡◌, ◌++◌}
use Rattle.iso_expand.specs.IsoForms.Stepped.{longer}
use Rattle.iso_expand.proofs.iso_forms.choices.push_each.Given as goal

abbrev pub invariant-loop-tree : goal.invariant-loop-tree
invariant-loop-tree l = l.out.items ≡ l.initial.out.items ++ longer l.choice l.yielded
