use Rattle.std.proofs.Common.{◌≡◌, ◌∙◌, Ok}
use Rattle.std.proofs.lemmas.Result.{err_from_is_err_and, IfErr-weaker}
use Rattle.run_acts.specs.Acts.{Report}
use Rattle.run_files.proofs.ActLemmas.{Stops-one, Stops-unfed}
use Rattle.run_files.proofs.effects.report_made.Goals as goal

pub returns-in_err-line-clause-stopped : goal.returns-in_err-line-clause-stopped
returns-in_err-line-clause-stopped g c =
    let p = err_from_is_err_and c.from_residual.result c.from_residual.ensures.1 in
    rw (p.1, p.2) (λ line files out stores s o s' o' made. Stops-unfed (Report line) _ _ _)

pub returns-clause-stopped : goal.returns-clause-stopped
returns-clause-stopped g c =
    IfErr-weaker c.report.result _ _ (λ stopped h line files out stores s o s' o' made.
    let ok : c.args.made ≡ Ok c.in_ok-line.line = c.in_ok-line.was in
    let given : c.in_ok-line.line.items ≡ line = rw ok at made in
    let put : c.deref.result.now ≡ line = c.deref.ensures.value ∙ given in
    Stops-one (Report line) _ _ _ _ _ (rw put at (h files out stores s o s' o'))) c.report.ensures.stopped
