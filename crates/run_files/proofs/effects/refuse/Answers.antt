use Rattle.std.proofs.lemmas.Result.{err_from_is_err_and, IfErr-weaker, on_ok_weaker}
use Rattle.run_files.specs.RunLines.Files.{refused_line, fault_place}
use Rattle.run_files.specs.Treatment.{told_places}
use Rattle.run_files.proofs.ActLemmas.{Stops-unfed}
use Rattle.run_files.proofs.effects.refuse.Goals as goal

pub returns-in_err-place-clause-stopped : goal.returns-in_err-place-clause-stopped
returns-in_err-place-clause-stopped g c =
    let p = err_from_is_err_and c.from_residual.result c.from_residual.ensures.1 in
    rw (p.1, p.2) (λ found are files out stores s o s' o'. Stops-unfed _ _ _ _)

pub returns-clause-done : goal.returns-clause-done
returns-clause-done g c =
    on_ok_weaker c.report_made.result (λ h found are files stores out.
    h (refused_line c.args.name.now (fault_place c.args.text.now (told_places c.args.quiet found) c.args.fault.now) c.args.fault.now) files stores out
    (rw (← c.in_ok-place.ensures found are) c.refused_line.ensures.bytes)) c.report_made.ensures.done

pub returns-clause-stopped : goal.returns-clause-stopped
returns-clause-stopped g c =
    IfErr-weaker c.report_made.result _ _ (λ stopped h found are files out stores s o s' o'.
    h (refused_line c.args.name.now (fault_place c.args.text.now (told_places c.args.quiet found) c.args.fault.now) c.args.fault.now) files out stores s o s' o'
    (rw (← c.in_ok-place.ensures found are) c.refused_line.ensures.bytes)) c.report_made.ensures.stopped
