use Rattle.std.proofs.Common.{◌+◌, ◌∷◌, [], arith, subst, sym}
use Rattle.par_match.specs.Answers.{AreAnswers}
use Rattle.par_match.proofs.AnswerLemmas.{more-answers, one-answer, fails-here}
use Rattle.par_match.proofs.range.do_range.Goals as goal

pub returns-in-Err-clause-fault : goal.returns-in-Err-clause-fault
returns-in-Err-clause-fault g c = let i = c.loop-job.invariant in
    fails-here (g.W.Worker.may_answer c.args.worker.now)
    (g.W.Worker.may_fail c.args.worker.now) c.args.from c.loop-job.job c.args.to c.loop-job.answers.items c.in-Err.fault i.0
    c.loop-job-test.true i.2 c.in-Err.ensures.fault

pub loop-job-preserved : goal.loop-job-preserved
loop-job-preserved g c = let may = g.W.Worker.may_answer c.args.worker.now in let i = c.loop-job.invariant in
    let job = c.loop-job.job in (
      omega (arith, i.0),
      omega (arith, c.loop-job-test.true),
      subst (AreAnswers may c.args.from (job + 1)) (sym c.in_ok-push-in-Ok.ensures.items)
          (more-answers may c.args.from job (job + 1) c.loop-job.answers.items (c.in-Ok.answer ∷ []) i.0 (omega arith) i.2
          (one-answer may job c.in-Ok.answer c.in-Ok.ensures.answer)),
    )
