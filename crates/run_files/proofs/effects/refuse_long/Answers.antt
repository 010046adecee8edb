use Rattle.std.proofs.lemmas.Result.{IfErr-weaker, on_ok_weaker}
use Rattle.run_files.specs.RunLines.Files.{too_long_line}
use Rattle.run_files.proofs.effects.refuse_long.Goals as goal

pub returns-clause-done : goal.returns-clause-done
returns-clause-done g c =
    on_ok_weaker c.report_made.result (λ h files stores out.
    h (too_long_line c.args.name.now) files stores out c.too_long_line.ensures.bytes) c.report_made.ensures.done

pub returns-clause-stopped : goal.returns-clause-stopped
returns-clause-stopped g c =
    IfErr-weaker c.report_made.result _ _ (λ stopped h files out stores s o s' o'.
    h (too_long_line c.args.name.now) files out stores s o s' o' c.too_long_line.ensures.bytes) c.report_made.ensures.stopped
