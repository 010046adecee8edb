use Rattle.std.proofs.Common.{◌<◌, length, arith}
use Rattle.std.proofs.lemmas.Grind.{common_steps}
use Rattle.std.proofs.lemmas.Result.{IfErr-weaker}
use Rattle.run_acts.specs.Acts.{Print}
use Rattle.run_files.proofs.ActLemmas.{Stops-one, printing_some}
use Rattle.run_files.proofs.effects.show.Goals as goal

pub returns-clause-stopped : goal.returns-clause-stopped
returns-clause-stopped g c =
    let some : 0 < length c.args.text.now = grind (arith, common_steps) in
    rw (printing_some c.args.text.now some)
    (IfErr-weaker c.print.result _ _ (λ stopped h files stores s s'. Stops-one (Print c.args.text.now) _ _ _ _ _ (h files stores s s')) c.print.ensures.stopped)
