use Rattle.std.proofs.Common.{◌∙◌, ap, refl, arith}
use Rattle.std.proofs.lemmas.Result.{err_from_is_err_and}
use Rattle.outer_io.specs.Files.{grown}
use Rattle.run_acts.specs.Acts.{Report, observed}
use Rattle.run_acts.specs.Breaks.{NoneFell, counts}
use Rattle.run_files.proofs.ActLemmas.{stops_at, does_at}
use Rattle.spatch_run.proofs.notes.report_all.Goals as goal

pub loop-line-init : goal.loop-line-init
loop-line-init g c = record { later = omega arith; done = λ files stores out. record { observed = refl } }

pub returns-in_err-report-clause-stopped : goal.returns-in_err-report-clause-stopped
returns-in_err-report-clause-stopped g c =
    let p = err_from_is_err_and c.from_residual.result c.from_residual.ensures.1 in
    rw (p.1, p.2) (λ files out stores s o s' o'.
    let fell : NoneFell (counts s o (g.E.Sink.faults c.args.err.now)) (counts s o (g.E.Sink.faults c.loop-line.err)) =
    record { shelf = omega arith; out = omega arith; err = c.loop-line.invariant.later } in
    stops_at Report c.args.lines.now c.loop-line.line-index c.line-item.result _
    (counts s o (g.E.Sink.faults c.loop-line.err)) _ _
    (observed files stores out (g.E.Sink.written c.loop-line.err)) _ _
    (omega arith) c.line-item.is fell
    (c.loop-line.invariant.done files stores out) (rw c.as_bytes.ensures.bytes at (c.in_err-report.ensures.stopped files out stores s o s' o')))

pub loop-line-preserved : goal.loop-line-preserved
loop-line-preserved g c = record {
  later = omega (arith, c.loop-line.invariant.later, c.in_ok-report.ensures.later);
  done = λ files stores out.
      does_at Report c.args.lines.now c.loop-line.line-index c.line-item.result _
      (observed files stores out (g.E.Sink.written c.loop-line.err)) _
      (omega arith) c.line-item.is (c.loop-line.invariant.done files stores out)
      (ap (observed files stores out) (c.in_ok-report.ensures.ok ∙ ap (grown (g.E.Sink.written c.loop-line.err)) c.as_bytes.ensures.bytes));
}
