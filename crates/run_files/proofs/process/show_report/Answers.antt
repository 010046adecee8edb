use Rattle.std.proofs.Common.{◌≡◌, ◌∙◌, ap, [], ◌∷◌}
use Rattle.std.proofs.lemmas.Result.{err_from_is_err_and, IfErr-weaker, on_ok_weaker}
use Rattle.wit_print.specs.Report.{report_of}
use Rattle.run_acts.specs.Acts.{Print}
use Rattle.run_files.specs.Treatment.{printing}
use Rattle.run_files.proofs.ActLemmas.{Does-as, Stops-as, Stops-unfed}
use Rattle.run_files.proofs.TreatLemmas.{report_prints, report_shown}
use Rattle.run_files.proofs.process.show_report.Goals as goal

-- memory ran out before there was a report
pub returns-in_err-text-clause-stopped : goal.returns-in_err-text-clause-stopped
returns-in_err-text-clause-stopped g c =
    let p = err_from_is_err_and c.from_residual.result c.from_residual.ensures.1 in
    let patch = c.args.patch.now in let name = c.args.name.now in
    rw (p.1, p.2) (λ unread s files stores n n' a.
    Stops-as (Print (report_of patch name s.found) ∷ []) (printing (report_of patch name s.found)) _ _ _ _ _
    (report_prints patch name s.found) (Stops-unfed (Print (report_of patch name s.found)) _ _ _))

pub returns-clause-done : goal.returns-clause-done
returns-clause-done g c =
    let patch = c.args.patch.now in let name = c.args.name.now in
    on_ok_weaker c.show.result (λ h unread s files stores a.
    let text : c.deref.result.now ≡ report_of patch name s.found =
    c.deref.ensures.value ∙ c.in_ok-text.ensures.report
    ∙ (λ i. report_of patch (c.as_bytes.ensures.value i) (c.as_slice-witnesses.ensures i)) ∙ report_shown patch name c.args.applied.now unread s a in
    Does-as (printing c.deref.result.now) (printing (report_of patch name s.found)) _ _ (ap printing text) (h files stores)) c.show.ensures.done

pub returns-clause-stopped : goal.returns-clause-stopped
returns-clause-stopped g c =
    let patch = c.args.patch.now in let name = c.args.name.now in
    IfErr-weaker c.show.result _ _ (λ stopped h unread s files stores n n' a.
    let text : c.deref.result.now ≡ report_of patch name s.found =
    c.deref.ensures.value ∙ c.in_ok-text.ensures.report
    ∙ (λ i. report_of patch (c.as_bytes.ensures.value i) (c.as_slice-witnesses.ensures i)) ∙ report_shown patch name c.args.applied.now unread s a in
    Stops-as (printing c.deref.result.now) (printing (report_of patch name s.found)) _ _ _ _ _ (ap printing text)
    (h files stores n n')) c.show.ensures.stopped
