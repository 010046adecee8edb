use Rattle.std.proofs.Common.{◌≡◌, ◌++◌, drop}
use Rattle.iso_expand.specs.IsoForms.Stepped.{longer}
use Rattle.iso_expand.proofs.iso_forms.choices.push_longer.Given as goal

abbrev pub invariant-loop-tree : goal.invariant-loop-tree
invariant-loop-tree l = l.out.items ++ longer l.choice (drop l.tree-index l.trees) ≡ l.initial.out.items ++ longer l.choice l.trees
