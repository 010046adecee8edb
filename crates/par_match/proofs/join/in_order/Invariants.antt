use Rattle.std.proofs.Common.{All, IfOk, vec_len}
use Rattle.par_match.specs.Parts.{IsPartOf, Holds}
use Rattle.par_match.proofs.join.in_order.Given as goal

abbrev pub invariant-loop-parts : goal.invariant-loop-parts
invariant-loop-parts g l = All (λ r. IfOk r (λ v. All (IsPartOf (g.W.Worker.may_answer l.worker) (g.W.Worker.may_fail l.worker)) v.items)) l.taken.items
    × All (Holds (g.W.Worker.may_answer l.worker) (g.W.Worker.may_fail l.worker)) l.cells.items

abbrev pub decreases-loop-parts : goal.decreases-loop-parts
decreases-loop-parts g l = vec_len l.taken
