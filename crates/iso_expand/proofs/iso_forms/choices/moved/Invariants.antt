use Rattle.std.proofs.Common.{◌≡◌, ◌++◌, length, reverse}
use Rattle.iso_expand.proofs.iso_forms.choices.moved.Given as goal

abbrev pub invariant-loop-tree : goal.invariant-loop-tree
invariant-loop-tree l = l.trees ++ reverse l.all.items ≡ l.initial.trees

abbrev pub decreases-loop-tree : goal.decreases-loop-tree
decreases-loop-tree l = length l.trees
