use Rattle.std.proofs.Common.{drop, map}
use Rattle.c_show.specs.Show.{shown, shown_kids}
use Rattle.c_show.proofs.Pages.{Reaches}
use Rattle.c_show.proofs.layout.+put_tree.Given as goal

abbrev pub invariant-loop-i : goal.invariant-loop-i
invariant-loop-i l = Reaches l.initial.page (shown_kids l.label 0 (map shown l.child-items)) l.page
    (shown_kids l.label l.i (map shown (drop l.i l.child-items)))
