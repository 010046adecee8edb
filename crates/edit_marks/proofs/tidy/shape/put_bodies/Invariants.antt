use Rattle.std.proofs.Common.{◌≡◌, ◌++◌, drop, length}
use Rattle.edit_marks.specs.Tidy.Outlines.{bodies_from, bodies_of}
use Rattle.edit_marks.proofs.tidy.shape.put_bodies.Given as goal

abbrev pub invariant-loop-i : goal.invariant-loop-i
invariant-loop-i l =
    l.bodies.items ++ bodies_from l.branch.item l.path l.branch.label l.branch.bounds.now (length l.branch.children.now) l.i (drop l.i l.child-items)
    ≡ l.initial.bodies.items ++ bodies_of l.branch.item l.path l.branch.label l.branch.bounds.now l.branch.children.now
