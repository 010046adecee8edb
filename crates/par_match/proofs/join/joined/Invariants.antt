use Rattle.std.proofs.Common.{◌-◌, ◌≤◌, All}
use Rattle.std.specs.Vec.Iter.{into_iter_items}
use Rattle.par_match.specs.Answers.{AreAnswers}
use Rattle.par_match.specs.Parts.{Holds}
use Rattle.par_match.proofs.join.joined.Given as goal

-- the jobs before `from` have answered, and each cell holds the outcome of its range
abbrev pub invariant-loop-from : goal.invariant-loop-from
invariant-loop-from g l = (l.from ≤ l.ranges.n)
    × AreAnswers (g.W.Worker.may_answer l.worker) 0 l.from l.answers.items
    × All (Holds (g.W.Worker.may_answer l.worker) (g.W.Worker.may_fail l.worker)) (into_iter_items l.cells)

abbrev pub decreases-loop-from : goal.decreases-loop-from
decreases-loop-from g l = l.ranges.n - l.from
