use Rattle.std.proofs.Common.{◌≡◌, ◌∙◌, ap, [], ◌∷◌, length}
use Rattle.std.proofs.lemmas.Result.{err_from_is_err_and, IfErr-weaker, on_ok_weaker}
use Rattle.run_acts.specs.Acts.{Print}
use Rattle.run_files.specs.RunLines.Summary.{summary}
use Rattle.run_files.specs.Treatment.{printing}
use Rattle.run_files.proofs.ActLemmas.{Does-as, Stops-as, Stops-unfed}
use Rattle.run_files.proofs.TreatLemmas.{summary_prints, summary_shown}
use Rattle.run_files.proofs.process.show_summary.Goals as goal

-- memory ran out before there was a summary
pub returns-in_err-text-clause-stopped : goal.returns-in_err-text-clause-stopped
returns-in_err-text-clause-stopped g c =
    let p = err_from_is_err_and c.from_residual.result c.from_residual.ensures.1 in
    let rules = c.args.patch.now.rules in
    rw (p.1, p.2) (λ unread s files stores n n' a.
    Stops-as (Print (summary rules s.found (length s.page.bytes)) ∷ []) (printing (summary rules s.found (length s.page.bytes))) _ _ _ _ _
    (summary_prints rules s.found (length s.page.bytes)) (Stops-unfed (Print (summary rules s.found (length s.page.bytes))) _ _ _))

pub returns-clause-done : goal.returns-clause-done
returns-clause-done g c =
    let rules = c.args.patch.now.rules in
    on_ok_weaker c.show.result (λ h unread s files stores a.
    let text : c.deref.result.now ≡ summary rules s.found (length s.page.bytes) =
    c.deref.ensures.value ∙ c.in_ok-text.ensures.text
    ∙ (λ i. summary (c.as_slice.ensures i) (c.as_slice-2.ensures i) ((c.len.ensures ∙ c.args.applied.now.bytes.ok.0) i))
    ∙ summary_shown rules c.args.applied.now unread s a in
    Does-as (printing c.deref.result.now) (printing (summary rules s.found (length s.page.bytes))) _ _ (ap printing text) (h files stores)) c.show.ensures.done

pub returns-clause-stopped : goal.returns-clause-stopped
returns-clause-stopped g c =
    let rules = c.args.patch.now.rules in
    IfErr-weaker c.show.result _ _ (λ stopped h unread s files stores n n' a.
    let text : c.deref.result.now ≡ summary rules s.found (length s.page.bytes) =
    c.deref.ensures.value ∙ c.in_ok-text.ensures.text
    ∙ (λ i. summary (c.as_slice.ensures i) (c.as_slice-2.ensures i) ((c.len.ensures ∙ c.args.applied.now.bytes.ok.0) i))
    ∙ summary_shown rules c.args.applied.now unread s a in
    Stops-as (printing c.deref.result.now) (printing (summary rules s.found (length s.page.bytes))) _ _ _ _ _ (ap printing text)
    (h files stores n n')) c.show.ensures.stopped
