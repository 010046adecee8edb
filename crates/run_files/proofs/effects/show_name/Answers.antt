use Rattle.std.proofs.Common.{◌≡◌, ◌∙◌, ◌++◌, codes}
use Rattle.std.proofs.lemmas.Result.{err_from_is_err_and, IfErr-weaker}
use Rattle.run_acts.specs.Acts.{Print}
use Rattle.run_files.specs.RunLines.Names.{quoted_name}
use Rattle.run_files.proofs.ActLemmas.{Stops-one, Stops-unfed}
use Rattle.run_files.proofs.effects.show_name.Goals as goal

-- memory ran out before there was a line
pub returns-in_err-line-clause-stopped : goal.returns-in_err-line-clause-stopped
returns-in_err-line-clause-stopped g c =
    let p = err_from_is_err_and c.from_residual.result c.from_residual.ensures.1 in
    rw (p.1, p.2) (λ files stores s s'. Stops-unfed (Print (quoted_name c.args.name.now ++ codes "\n")) _ _ _)

pub returns-clause-stopped : goal.returns-clause-stopped
returns-clause-stopped g c =
    let put : c.deref.result.now ≡ quoted_name c.args.name.now ++ codes "\n" = c.deref.ensures.value ∙ c.in_ok-line.ensures.bytes in
    IfErr-weaker c.print.result _ _ (λ stopped h files stores s s'.
    Stops-one (Print (quoted_name c.args.name.now ++ codes "\n")) _ _ _ _ _ (rw put at (h files stores s s'))) c.print.ensures.stopped
