use Rattle.std.proofs.Common.{◌≡◌, ◌++◌, drop, map}
use Rattle.smpl_notes.specs.Names.{short_names, inside_from}
use Rattle.smpl_notes.proofs.names.+names.Given as goal

abbrev pub invariant-put_children-loop-i : goal.invariant-put_children-loop-i
invariant-put_children-loop-i l =
    l.found ++ inside_from l.label l.i (map short_names (drop l.i l.children)) ≡ l.initial.found ++ inside_from l.label 0 (map short_names l.children)
