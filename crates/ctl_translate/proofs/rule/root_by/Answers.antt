use Rattle.std.proofs.Common.{not, ◌∙◌, ap, List}
use Rattle.std.specs.List.{filter}
use Rattle.smpl_terms.specs.declared.var.Var.{Var}
use Rattle.smpl_patch.specs.Bodies.{body}
use Rattle.pattern_vars.specs.VarPlaces.Placing.{is_alone}
use Rattle.pattern_vars.specs.VarPlaces.Places.{reading_at}
use Rattle.ctl_translate.proofs.rule.root_by.Goals as goal

pub root_of-requires-clause-alone : goal.root_of-requires-clause-alone
root_of-requires-clause-alone c =
    c.in_ok-found.ensures.alone
    ∙ ap (λ z. filter (is_alone (reading_at c.args.reader.now) (body z)) c.as_slice.result.now) c.as_slice-b.ensures
    ∙ ap (λ (vars : List Var). filter (is_alone (reading_at c.args.reader.now) (body c.args.rule.now.body)) vars) c.as_slice.ensures

pub root_of-requires-clause-placed : goal.root_of-requires-clause-placed
root_of-requires-clause-placed c =
    c.in_ok-found.ensures.placed
    ∙ ap (λ z. filter (λ x. not (is_alone (reading_at c.args.reader.now) (body z) x)) c.as_slice.result.now) c.as_slice-b.ensures
    ∙ ap (λ (vars : List Var). filter (λ x. not (is_alone (reading_at c.args.reader.now) (body c.args.rule.now.body) x)) vars) c.as_slice.ensures
