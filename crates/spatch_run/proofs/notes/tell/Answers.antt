use Rattle.std.proofs.Common.{map, ap, ◌∙◌}
use Rattle.std.specs.Prelude.{cond}
use Rattle.std.proofs.lemmas.Result.{IfErr-weaker, on_ok_weaker}
use Rattle.run_acts.specs.Acts.{Report}
use Rattle.run_files.proofs.ActLemmas.{Does-as, Stops-as}
use Rattle.run_files.specs.RunStages.Stages.{told}
use Rattle.spatch_run.proofs.Treating.{course_of}
use Rattle.spatch_run.proofs.Noting.{told_nothing, told_all}
use Rattle.spatch_run.proofs.notes.tell.Goals as goal

pub returns-then-tally-clause-done : goal.returns-then-tally-clause-done
returns-then-tally-clause-done g c =
    let notes = c.args.notes.now in
    λ files stores out. told_nothing c.args.tally.refused (cond c.args.tally.found notes.always notes.all) _ c.if-tally.true

pub returns-clause-done : goal.returns-clause-done
returns-clause-done g c =
    let notes = c.args.notes.now in
    let lines = cond c.args.tally.found notes.always notes.all in
    let same = ap (map Report) c.told.ensures ∙ told_all c.args.tally.refused lines c.if-tally.false in
    on_ok_weaker c.report_all.result (λ h files stores out.
    Does-as (map Report c.told.result.now) (told (course_of c.args.tally notes)) _ _ same (h files stores out)) c.report_all.ensures.done

pub returns-clause-stopped : goal.returns-clause-stopped
returns-clause-stopped g c =
    let notes = c.args.notes.now in
    let lines = cond c.args.tally.found notes.always notes.all in
    let same = ap (map Report) c.told.ensures ∙ told_all c.args.tally.refused lines c.if-tally.false in
    IfErr-weaker c.report_all.result _ _ (λ stopped h files out stores s o s' o'.
    Stops-as (map Report c.told.result.now) (told (course_of c.args.tally notes)) _ _ _ _ _ same (h files out stores s o s' o'))
    c.report_all.ensures.stopped
