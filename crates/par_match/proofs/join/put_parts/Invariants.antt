use Rattle.std.proofs.Common.{All}
use Rattle.par_match.specs.Parts.{IsPartOf, Holds}
use Rattle.par_match.proofs.join.put_parts.Given as goal

abbrev pub invariant-loop-part : goal.invariant-loop-part
invariant-loop-part g l = All (IsPartOf (g.W.Worker.may_answer l.worker) (g.W.Worker.may_fail l.worker)) l.parts.items
    × All (Holds (g.W.Worker.may_answer l.worker) (g.W.Worker.may_fail l.worker)) l.cells.items

abbrev pub decreases-loop-part : goal.decreases-loop-part
decreases-loop-part g l = goal.left-loop-part g l
