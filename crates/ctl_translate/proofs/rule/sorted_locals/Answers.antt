use Rattle.std.proofs.Common.{not, ◌∙◌, ap}
use Rattle.smpl_patch.specs.Bodies.{body}
use Rattle.pattern_vars.specs.Reads.{has}
use Rattle.pattern_vars.specs.VarPlaces.Placing.{is_alone}
use Rattle.pattern_vars.specs.VarPlaces.Places.{reading_at}
use Rattle.pattern_vars.proofs.VarPlaces.KeptLemmas.{filter-same, not-not}
use Rattle.ctl_translate.proofs.rule.sorted_locals.Goals as goal

pub returns-clause-alone : goal.returns-clause-alone
returns-clause-alone c =
    let test = is_alone (reading_at c.args.reader.now) (body c.args.b.now) in
    c.in_ok-alone-2.ensures ∙ c.in_ok-alone.ensures
    ∙ filter-same (λ x. not (has c.in_ok-used.used x)) test c.args.locals.now (λ x. ap not (c.in_ok-used.ensures x))

pub returns-clause-placed : goal.returns-clause-placed
returns-clause-placed c =
    let test = is_alone (reading_at c.args.reader.now) (body c.args.b.now) in
    c.in_ok-placed.ensures ∙ filter-same (has c.in_ok-used.used) (λ x. not (test x)) c.args.locals.now (λ x. c.in_ok-used.ensures x ∙ not-not _)
