use Rattle.std.proofs.Common.{◌<◌, length, arith}
use Rattle.std.proofs.lemmas.Grind.{common_steps}
use Rattle.std.proofs.lemmas.Result.{err_from_is_err_and, IfErr-weaker, on_ok_weaker}
use Rattle.run_files.specs.Treatment.{note_act, told_places}
use Rattle.run_files.proofs.ActLemmas.{no_acts, stops_unfed_first}
use Rattle.run_files.proofs.effects.report_skipped.Goals as goal

pub returns-then-is_empty-clause-done : goal.returns-then-is_empty-clause-done
returns-then-is_empty-clause-done g c = λ found are files stores out.
    no_acts (note_act c.args.name.now c.args.text.now (told_places c.args.quiet found)) c.args.notes.now _ (grind (arith, common_steps))

pub returns-in_err-found-clause-stopped : goal.returns-in_err-found-clause-stopped
returns-in_err-found-clause-stopped g c =
    let p = err_from_is_err_and c.from_residual.result c.from_residual.ensures.1 in
    let some : 0 < length c.args.notes.now = grind (arith, common_steps) in
    rw (p.1, p.2) (λ found are files out stores s o s' o'.
    stops_unfed_first (note_act c.args.name.now c.args.text.now (told_places c.args.quiet found)) c.args.notes.now _ _ _ some)

pub returns-clause-done : goal.returns-clause-done
returns-clause-done g c = on_ok_weaker c.report_notes.result (λ h found are. rw (← c.in_ok-found.ensures found are) h) c.report_notes.ensures.done

pub returns-clause-stopped : goal.returns-clause-stopped
returns-clause-stopped g c =
    IfErr-weaker c.report_notes.result _ _ (λ stopped h found are. rw (← c.in_ok-found.ensures found are) h) c.report_notes.ensures.stopped
