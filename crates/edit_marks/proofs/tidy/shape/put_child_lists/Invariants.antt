use Rattle.std.proofs.Common.{◌≡◌, ◌++◌, drop}
use Rattle.edit_marks.specs.Tidy.Outlines.{lists_from}
use Rattle.edit_marks.proofs.tidy.shape.put_child_lists.Given as goal

abbrev pub invariant-loop-i : goal.invariant-loop-i
invariant-loop-i l =
    l.lists.items ++ lists_from l.all l.branch.bounds.now l.i (drop l.i l.child-items)
    ≡ l.initial.lists.items ++ lists_from l.all l.branch.bounds.now 0 l.branch.children.now
