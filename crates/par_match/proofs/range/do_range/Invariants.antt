use Rattle.std.proofs.Common.{◌≤◌}
use Rattle.par_match.specs.Answers.{AreAnswers}
use Rattle.par_match.proofs.range.do_range.Given as goal

-- the jobs so far have answered
abbrev pub invariant-loop-job : goal.invariant-loop-job
invariant-loop-job g l = (l.from ≤ l.job) × (l.job ≤ l.to) × AreAnswers (g.W.Worker.may_answer l.worker) l.from l.job l.answers.items
