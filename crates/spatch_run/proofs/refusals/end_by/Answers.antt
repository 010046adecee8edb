use Rattle.std.proofs.Common.{[], refl, arith}
use Rattle.std.proofs.lemmas.Result.{err_from_is_err_and}
use Rattle.run_acts.specs.Acts.{Report, observed}
use Rattle.run_acts.specs.Breaks.{NoneFell, counts}
use Rattle.run_acts.specs.Statuses.{number_of}
use Rattle.run_files.specs.RunStages.Stages.{refusing, Ending}
use Rattle.spatch_run.proofs.Chain.{Goes-act, Goes-ends, broken, over}
use Rattle.spatch_run.proofs.refusals.end_by.Goals as goal

pub returns-in_err-report : goal.returns-in_err-report
returns-in_err-report g c = record {
  ends = λ files out stores s o.
      let p = err_from_is_err_and c.from_residual.result c.from_residual.ensures.1 in
      rw (p.1, p.2) (broken (refusing c.args.line.now (number_of c.args.status)) (Report c.args.line.now) refl
      (record { shelf = omega arith; out = omega arith; err = c.in_err-report.ensures.later }) (c.in_err-report.ensures.stopped files out stores s o s o));
}

pub returns : goal.returns
returns g c = record {
  ends = λ files out stores s o.
      let fell : NoneFell (counts s o (g.E.Sink.faults c.args.err.now)) (counts s o (g.E.Sink.faults c.report.new.err)) =
      record { shelf = omega arith; out = omega arith; err = c.in_ok-report.ensures.later } in
      Goes-ends (Goes-act (refusing c.args.line.now (number_of c.args.status)) (Report c.args.line.now)
      (Ending [] (number_of c.args.status)) (observed files stores out (g.E.Sink.written c.args.err.now))
      (observed files stores out (g.E.Sink.written c.report.new.err)) refl refl (rw c.in_ok-report.ensures.ok refl)) fell
      (over (Ending [] (number_of c.args.status)) _ _ (number_of c.args.status) refl);
}
